use Rattle.std.proofs.Common.{◌≡◌, sym, arith}
use Rattle.fq_column.specs.Lists.{keep}
use Rattle.fq_ops.proofs.MarkedRowLemmas.{keep-whole}
use Rattle.fq_ops.proofs.joins.keep_rows.Goals as goal

pub returns-else-count-marks : goal.returns-else-count-marks
returns-else-count-marks c =
    let rows = c.args.batch.now.rows in
    let whole : keep c.args.marks.now rows ≡ rows = keep-whole c.args.marks.now rows (omega (arith, c.requires.marks, c.requires.count, c.if-count-marks.false)) in
    λ i. record { fields = c.args.batch.now.fields; rows = sym whole i }
