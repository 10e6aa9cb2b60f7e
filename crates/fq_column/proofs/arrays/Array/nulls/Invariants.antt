use Rattle.std.proofs.Common.{◌≡◌, length}
use Rattle.fq_column.proofs.arrays.Array.nulls.Given as goal

abbrev pub invariant-loop : goal.invariant-loop
invariant-loop g l = length l.values.items ≡ l.counter
