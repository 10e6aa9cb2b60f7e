use Rattle.std.proofs.Common.{◌≡◌, drop}
use Rattle.fq_column.specs.Refusal.{refusal_of}
use Rattle.fq_expr.specs.ExpressionData.{items_of}
use Rattle.fq_expr.specs.Outputs.{all_kinds}
use Rattle.fq_expr.proofs.steps.check_items.Given as goal

abbrev pub invariant-loop-item : goal.invariant-loop-item
invariant-loop-item l = refusal_of (all_kinds l.schema (items_of l.items)) ≡ refusal_of (all_kinds l.schema (items_of (drop l.item-index l.items)))
