use Rattle.std.proofs.Common.{◌∙◌, ap, sym, take}
use Rattle.fq_column.specs.Validity.{marks}
use Rattle.fq_column.proofs.ValidityLemmas.{marks-take}
use Rattle.fq_column.proofs.validity.Validity.truncate.Goals as goal

pub returns : goal.returns
returns c =
    let words = c.self.inside.words.items in
    ap (marks words) c.min-self-inside.ensures ∙ sym (marks-take words c.self.inside.len c.args.n) ∙ ap (take c.args.n) c.self.view_is
