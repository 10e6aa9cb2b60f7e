use Rattle.std.proofs.Common.{take}
use Rattle.fq_expr.specs.ExpressionData.{items_of}
use Rattle.fq_expr.specs.Made.{AreEvaluated}
use Rattle.fq_expr.proofs.application.evaluate_items.Given as goal

abbrev pub invariant-loop-i : goal.invariant-loop-i
invariant-loop-i l = AreEvaluated l.batch (take l.i (items_of l.items)) l.made.items l.rows l.item
