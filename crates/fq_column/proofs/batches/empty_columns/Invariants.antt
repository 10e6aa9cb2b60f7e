use Rattle.std.proofs.Common.{◌≡◌, map, take}
use Rattle.fq_column.specs.Batch.{without_cells}
use Rattle.fq_column.specs.Frame.{kinds_of}
use Rattle.fq_column.proofs.batches.empty_columns.Given as goal

abbrev pub invariant-loop-i : goal.invariant-loop-i
invariant-loop-i l = l.columns.items ≡ map without_cells (take l.i (kinds_of l.schema))
