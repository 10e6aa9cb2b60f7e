use Rattle.std.proofs.Common.{◌∙◌, ap, map, replicate, true, false, pos, ◌-ℤ◌, Some}
use Rattle.fq_column.specs.declared.cells.Cell.TheVariants as cell
use Rattle.fq_column.specs.Cell.{fitted}
use Rattle.fq_column.specs.Column.{nullable}
use Rattle.fq_column.specs.Lists.{zip_with}
use Rattle.fq_expr.specs.declared.expressions.Unary.TheVariants.{Neg, Not, IsNull, IsNotNull}
use Rattle.fq_expr.specs.Comparison.{answer_for, sameness_of}
use Rattle.fq_expr.specs.Operand.{cells_in_rows, kind_in_rows}
use Rattle.fq_expr.specs.Value.{of_wholes, compared, unary_value}
use Rattle.fq_expr.proofs.EvaluationLemmas.{map-replicate, zip_with-left, zip_with-right, length-cells_in_rows, negation, not-equal, null-same, null-differs, same-cells, truth-operand}
use Rattle.fq_expr.proofs.kernels.unary.Goals as goal

pub sameness-requires-clause-right_rows : goal.sameness-requires-clause-right_rows
sameness-requires-clause-right_rows c = c.nulls.ensures.rows c.args.rows

pub sameness-requires-in-IsNotNull-clause-right_rows : goal.sameness-requires-in-IsNotNull-clause-right_rows
sameness-requires-in-IsNotNull-clause-right_rows c = c.nulls-in-IsNotNull.ensures.rows c.args.rows

pub returns-in-Neg-clause-cells : goal.returns-in-Neg-clause-cells
returns-in-Neg-clause-cells c = let n = c.args.rows in let xs = cells_in_rows c.args.rows c.args.operand.now in
    rw c.in-Neg.is (same-cells c.arithmetic.result (zip_with (of_wholes (λ a b. fitted (a -ℤ b))) (map (nullable cell.Whole) (replicate n (Some (pos 0)))) xs) (map (unary_value Neg) xs)
    (ap (λ l. zip_with (of_wholes (λ a b. fitted (a -ℤ b))) l xs) (map-replicate (nullable cell.Whole) n (Some (pos 0)))
    ∙ zip_with-left (of_wholes (λ a b. fitted (a -ℤ b))) (unary_value Neg) (cell.Whole (pos 0)) xs n negation (length-cells_in_rows n c.args.operand.now c.requires.has_rows))
    c.arithmetic.ensures.cells)

pub returns-in-Not-clause-cells : goal.returns-in-Not-clause-cells
returns-in-Not-clause-cells c = let n = c.args.rows in let xs = cells_in_rows c.args.rows c.args.operand.now in
    let test = c.of.result in
    rw c.in-Not.is (same-cells c.comparison.result (zip_with (compared (answer_for test)) xs (map (nullable cell.Truth) (replicate n (Some false)))) (map (unary_value Not) xs)
    (ap (λ l. zip_with (compared (answer_for test)) xs l) (map-replicate (nullable cell.Truth) n (Some false))
    ∙ ap (λ t. zip_with (compared (answer_for t)) xs (replicate n (cell.Truth false))) c.of.ensures
    ∙ not-equal n c.args.operand.now (truth-operand (kind_in_rows c.args.operand.now) (rw c.in-Not.is at c.requires.kind)) c.requires.has_rows)
    c.comparison.ensures.cells)

pub returns-in-IsNull-clause-cells : goal.returns-in-IsNull-clause-cells
returns-in-IsNull-clause-cells c = let n = c.args.rows in let xs = cells_in_rows c.args.rows c.args.operand.now in
    rw c.in-IsNull.is (same-cells c.sameness.result (zip_with (sameness_of true) xs (cells_in_rows n c.nulls.result)) (map (unary_value IsNull) xs)
    (ap (zip_with (sameness_of true) xs) (c.nulls.ensures.cells n) ∙ zip_with-right (sameness_of true) (unary_value IsNull) cell.Null xs n null-same (length-cells_in_rows n c.args.operand.now c.requires.has_rows))
    c.sameness.ensures.cells)

pub returns-in-IsNotNull-clause-cells : goal.returns-in-IsNotNull-clause-cells
returns-in-IsNotNull-clause-cells c = let n = c.args.rows in let xs = cells_in_rows c.args.rows c.args.operand.now in
    rw c.in-IsNotNull.is (same-cells c.sameness-in-IsNotNull.result (zip_with (sameness_of false) xs (cells_in_rows n c.nulls-in-IsNotNull.result)) (map (unary_value IsNotNull) xs)
    (ap (zip_with (sameness_of false) xs) (c.nulls-in-IsNotNull.ensures.cells n) ∙ zip_with-right (sameness_of false) (unary_value IsNotNull) cell.Null xs n null-differs (length-cells_in_rows n c.args.operand.now c.requires.has_rows))
    c.sameness-in-IsNotNull.ensures.cells)
