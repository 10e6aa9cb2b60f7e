use Rattle.std.proofs.Common.{◌∙◌, ◌++◌, ◌+◌, ap, map, drop, option_copied, false}
use Rattle.std.specs.Prelude.{unwrap_or}
use Rattle.fq_column.specs.declared.cells.Cell.TheVariants as cell
use Rattle.fq_column.specs.Column.{nullable}
use Rattle.fq_expr.specs.Operand.{cells_in}
use Rattle.fq_expr.specs.Steps.{is_true}
use Rattle.fq_expr.proofs.FilterLemmas.{is_true-nullable, marks-step}
use Rattle.fq_expr.proofs.OperandLemmas.{cells_in-at}
use Rattle.fq_expr.proofs.application.truth_mask.Goals as goal

pub loop-i-preserved : goal.loop-i-preserved
loop-i-preserved c = let cells = cells_in cell.Truth c.args.rows c.args.operand.now in
    ap (λ l. l ++ map is_true (drop (c.loop-i.i + 1) cells)) c.in_ok-push.ensures.items
    ∙ marks-step is_true cells c.loop-i.i (nullable cell.Truth (option_copied c.get.result)) c.unwrap_or.result c.loop-i.mask.items
    (cells_in-at cell.Truth c.args.rows c.args.operand.now c.loop-i.i (option_copied c.get.result) c.loop-i-test.true c.get.ensures)
    (c.unwrap_or.ensures ∙ ap (λ o. unwrap_or o false) c.copied.ensures ∙ is_true-nullable (option_copied c.get.result))
    c.loop-i.invariant
