use Rattle.std.proofs.Common.{◌∙◌, string_bytes, ap, map, sym}
use Rattle.std.specs.Prelude.{unwrap_or}
use Rattle.fq_notation.specs.Notation.{notation_in, notation_named}
use Rattle.fq_notation.specs.declared.notations.Notation.TheVariants.{Plain}
use Rattle.fq_notation.proofs.NamedLemmas.{notation_named-found}
use Rattle.fq_notation.proofs.named.NamedNotations.of.Goals as goal

pub returns-in-Whole : goal.returns-in-Whole
returns-in-Whole c =
    let name = c.args.name.now in
    let items = c.as_slice.result.now in
    c.unwrap_or.ensures
    ∙ ap (λ found. unwrap_or found Plain) c.first_under.ensures
    ∙ sym (notation_named-found (λ entry. (string_bytes entry.0, entry.1)) name items)
    ∙ ap (λ items. notation_named (map (λ entry. (string_bytes entry.0, entry.1)) items) name) c.as_slice.ensures.value
    ∙ ap (λ named. notation_named named name) c.self.view_is
    ∙ ap (λ kind. notation_in c.args.self.now (name, kind)) (sym c.in-Whole.is)
