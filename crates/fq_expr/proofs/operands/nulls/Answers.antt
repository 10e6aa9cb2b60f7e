use Rattle.std.proofs.Common.{None}
use Rattle.fq_column.specs.declared.cells.Cell.TheVariants as cell
use Rattle.fq_column.specs.Column.{nullable}
use Rattle.fq_expr.proofs.EvaluationLemmas.{map-replicate}
use Rattle.fq_expr.proofs.operands.nulls.Goals as goal

pub returns-in-Whole-clause-cells : goal.returns-in-Whole-clause-cells
returns-in-Whole-clause-cells c n = map-replicate (nullable cell.Whole) n None

pub returns-in-Text-clause-cells : goal.returns-in-Text-clause-cells
returns-in-Text-clause-cells c n = map-replicate (nullable cell.Text) n None

pub returns-in-Truth-clause-cells : goal.returns-in-Truth-clause-cells
returns-in-Truth-clause-cells c n = map-replicate (nullable cell.Truth) n None
