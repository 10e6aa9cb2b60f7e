use Rattle.std.proofs.Common.{◌≡◌, ◌++◌, map, take, drop}
use Rattle.fq_column.proofs.BatchLemmas.{changed}
use Rattle.fq_column.proofs.batches.cut_columns.Given as goal

abbrev pub invariant-loop-i : goal.invariant-loop-i
invariant-loop-i l = l.columns ≡ map (changed (take l.n)) (take l.i l.fn.columns) ++ drop l.i l.fn.columns
