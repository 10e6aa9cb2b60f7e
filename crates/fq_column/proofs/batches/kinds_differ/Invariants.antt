use Rattle.std.proofs.Common.{◌≡◌, drop}
use Rattle.std.specs.Cmp.Lexicographic.{pointwise}
use Rattle.fq_column.specs.Batch.{has_kind_of}
use Rattle.fq_column.proofs.batches.kinds_differ.Given as goal

abbrev pub invariant-loop-i : goal.invariant-loop-i
invariant-loop-i l = pointwise has_kind_of l.schema l.columns ≡ pointwise has_kind_of (drop l.i l.schema) (drop l.i l.columns)
