use Rattle.std.proofs.Common.{◌≡◌, [], take, slice_index_or}
use Rattle.fq_ops.specs.Grouping.{key_at}
use Rattle.fq_ops.proofs.keys.read_cells.Given as goal

abbrev pub invariant-loop-i : goal.invariant-loop-i
invariant-loop-i l = take l.i l.cells ≡ key_at (take l.i l.places) (slice_index_or l.batch.rows l.row [])
