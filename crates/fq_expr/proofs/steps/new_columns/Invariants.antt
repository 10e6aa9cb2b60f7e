use Rattle.std.proofs.Common.{◌≡◌, ◌≤◌, ◌+◌, drop}
use Rattle.fq_expr.specs.Kinds.{count_new, item_names}
use Rattle.fq_expr.specs.ExpressionData.{items_of}
use Rattle.fq_expr.proofs.steps.new_columns.Given as goal

abbrev pub invariant-loop-item : goal.invariant-loop-item
invariant-loop-item l = (l.count + count_new l.schema (item_names (items_of (drop l.item-index l.items))) ≡ count_new l.schema (item_names (items_of l.items))) × (l.count ≤ l.item-index)
