use Rattle.std.proofs.Common.{◌≡◌, ◌++◌, map, drop}
use Rattle.fq_column.specs.declared.cells.Cell.TheVariants as cell
use Rattle.fq_expr.specs.Operand.{cells_in}
use Rattle.fq_expr.specs.Steps.{is_true}
use Rattle.fq_expr.proofs.application.truth_mask.Given as goal

abbrev pub invariant-loop-i : goal.invariant-loop-i
invariant-loop-i l = l.mask.items ++ map is_true (drop l.i (cells_in cell.Truth l.rows l.operand)) ≡ map is_true (cells_in cell.Truth l.rows l.operand)
