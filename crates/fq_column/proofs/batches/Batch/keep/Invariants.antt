use Rattle.std.proofs.Common.{◌≡◌, ◌++◌, map, take, drop}
use Rattle.fq_column.specs.Lists.{keep}
use Rattle.fq_column.proofs.BatchLemmas.{changed}
use Rattle.fq_column.proofs.batches.Batch.keep.Given as goal

abbrev pub invariant-loop-i : goal.invariant-loop-i
invariant-loop-i l = (l.self-inside.schema ≡ l.initial.self-inside.schema) × (l.self-inside.columns.items ≡ map (changed (keep l.mask)) (take l.i l.initial.self-inside.columns.items) ++ drop l.i l.initial.self-inside.columns.items)
