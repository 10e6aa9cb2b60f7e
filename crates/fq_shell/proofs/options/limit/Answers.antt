use Rattle.std.proofs.Common.{◌∙◌, Some, codes, ap, [], ◌∷◌}
use Rattle.clap.specs.Words.{Rule, rule_of}
use Rattle.clap.specs.declared.builder.value_parser.ValueParser.TheVariants.{Unsigned}
use Rattle.fq_shell.proofs.RuleLemmas.{parsed-by}
use Rattle.fq_shell.proofs.options.limit.Goals as goal

pub returns-clause-rule : goal.returns-clause-rule
returns-clause-rule c =
    let given = c.value_parser-2.ensures.given in
    let parsed = parsed-by c.value_name.result c.value_parser-2.result _ c.value_parser-2.ensures.others (given.1 ∙ ap Some (given.2 ∙ c.value_parser.ensures)) in
    ap rule_of c.help.ensures
    ∙ ap rule_of c.default_value.ensures
    ∙ ap (λ (r : Rule). record r { defaults = codes "100" ∷ [] }) parsed
    ∙ ap (λ (r : Rule). record r { parser = Some (Unsigned 0 18446744073709551615); defaults = codes "100" ∷ [] }) (ap rule_of c.value_name.ensures)
    ∙ ap (λ (r : Rule). record r { value_names = 1; parser = Some (Unsigned 0 18446744073709551615); defaults = codes "100" ∷ [] }) (ap rule_of c.long.ensures)
    ∙ ap (λ (r : Rule). record r { long = Some (codes "limit"); value_names = 1; parser = Some (Unsigned 0 18446744073709551615); defaults = codes "100" ∷ [] }) c.new.ensures.rule
