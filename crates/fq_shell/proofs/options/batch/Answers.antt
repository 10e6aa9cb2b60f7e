use Rattle.std.proofs.Common.{◌≡◌, ◌∙◌, Some, codes, ap, [], ◌∷◌}
use Rattle.std.specs.Prelude.{pos}
use Rattle.clap.specs.Words.{Rule, rule_of}
use Rattle.clap.specs.declared.builder.value_parser.ValueParser.TheVariants.{Signed}
use Rattle.fq_shell.proofs.RuleLemmas.{parsed-by}
use Rattle.fq_shell.proofs.options.batch.Goals as goal

pub returns-clause-rule : goal.returns-clause-rule
returns-clause-rule c =
    let given = c.value_parser-2.ensures.given in
    let made : c.range.result ≡ Signed (pos 1) (pos 65536) = rw (c.value_parser.ensures, c.new-2.ensures.start, c.new-2.ensures.end, c.from.ensures) at c.range.ensures in
    let parsed = parsed-by c.value_name.result c.value_parser-2.result _ c.value_parser-2.ensures.others (given.1 ∙ ap Some (given.2 ∙ made)) in
    ap rule_of c.help.ensures
    ∙ ap rule_of c.default_value.ensures
    ∙ ap (λ (r : Rule). record r { defaults = codes "1024" ∷ [] }) parsed
    ∙ ap (λ (r : Rule). record r { parser = Some (Signed (pos 1) (pos 65536)); defaults = codes "1024" ∷ [] }) (ap rule_of c.value_name.ensures)
    ∙ ap (λ (r : Rule). record r { value_names = 1; parser = Some (Signed (pos 1) (pos 65536)); defaults = codes "1024" ∷ [] }) (ap rule_of c.long.ensures)
    ∙ ap (λ (r : Rule). record r { long = Some (codes "batch"); value_names = 1; parser = Some (Signed (pos 1) (pos 65536)); defaults = codes "1024" ∷ [] }) c.new.ensures.rule
