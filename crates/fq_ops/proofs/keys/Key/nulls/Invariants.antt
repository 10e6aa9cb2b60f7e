use Rattle.std.proofs.Common.{◌≡◌, replicate}
use Rattle.fq_column.specs.declared.cells.Cell.TheVariants.{Null}
use Rattle.fq_ops.proofs.keys.Key.nulls.Given as goal

abbrev pub invariant-loop : goal.invariant-loop
invariant-loop l = l.cells.items ≡ replicate l.counter Null
