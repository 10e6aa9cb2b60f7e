use Rattle.std.proofs.Common.{◌≡◌, map, take}
use Rattle.fq_column.specs.Column.{Cells}
use Rattle.fq_column.specs.Frame.{value_at}
use Rattle.fq_column.proofs.batches.Batch.row.Given as goal

abbrev pub invariant-loop-column : goal.invariant-loop-column
invariant-loop-column l = l.row.items ≡ map (λ (c : Cells). value_at l.i c.cells) (take l.column-index l.column-items)
