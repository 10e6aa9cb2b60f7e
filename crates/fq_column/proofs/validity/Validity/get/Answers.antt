use Rattle.std.proofs.Common.{◌<◌, ◌∙◌, Some, ap, arith, length, sym}
use Rattle.fq_column.proofs.ValidityLemmas.{get-marks, length-marks}
use Rattle.fq_column.proofs.validity.Validity.get.Goals as goal

pub returns : goal.returns
returns c =
    let words = c.self.inside.words.items in
    let len = c.self.inside.len in
    let same = ap length c.self.view_is in
    let below : c.args.i < len = omega (arith, same, length-marks words len, c.requires) in
    rw (← c.self.view_is) (get-marks words len c.args.i below) ∙ ap Some (sym c.read_mark.ensures)
