use Rattle.std.proofs.Common.{◌∙◌, string_bytes, ap, map, sym}
use Rattle.fq_notation.specs.Notation.{notation_given}
use Rattle.fq_notation.proofs.NamedLemmas.{notation_given-found}
use Rattle.fq_notation.proofs.named.NamedNotations.given.Goals as goal

pub returns : goal.returns
returns c =
    let name = c.args.name.now in
    let items = c.as_slice.result.now in
    c.first_under.ensures
    ∙ sym (notation_given-found (λ entry. (string_bytes entry.0, entry.1)) name items)
    ∙ ap (λ items. notation_given (map (λ entry. (string_bytes entry.0, entry.1)) items) name) c.as_slice.ensures.value
    ∙ ap (λ named. notation_given named name) c.self.view_is
