use Rattle.std.proofs.Common.{◌<◌, ◌∙◌, ap, arith, length, set, true}
use Rattle.fq_column.proofs.ValidityLemmas.{length-marks, marks-set}
use Rattle.fq_column.proofs.validity.Validity.set.Goals as goal

pub returns : goal.returns
returns c =
    let words = c.self.inside.words.items in
    let len = c.self.inside.len in
    let same = ap length c.self.view_is in
    let below : c.args.i < len = omega (arith, same, length-marks words len, c.requires) in
    marks-set words c.write_mark.new.words.items len c.args.i true below c.write_mark.ensures.marks ∙ ap (λ ms. set ms c.args.i true) c.self.view_is
