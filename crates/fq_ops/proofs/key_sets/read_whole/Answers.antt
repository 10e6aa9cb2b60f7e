use Rattle.std.proofs.Common.{◌∙◌, ap, sym}
use Rattle.fq_column.specs.Column.{cells_of}
use Rattle.fq_ops.specs.KeySets.{whole_key}
use Rattle.fq_ops.proofs.KeySetLemmas.{whole-read}
use Rattle.fq_ops.proofs.key_sets.read_whole.Goals as goal

pub returns : goal.returns
returns c =
    ap whole_key c.copied.ensures
    ∙ whole-read c.args.batch.now.rows c.args.row c.args.places.now c.in-Whole.array c.column-column.result.now _ c.requires.whole.one c.column-column.ensures.cells
    (ap cells_of (sym c.in-Whole.is) ∙ c.values.ensures) c.get.ensures
