use Rattle.std.proofs.Common.{◌≡◌, take}
use Rattle.fq_ops.proofs.keys.Key.copy.Given as goal

abbrev pub invariant-loop-cell : goal.invariant-loop-cell
invariant-loop-cell l = l.cells.items ≡ take l.cell-index l.cell-items
