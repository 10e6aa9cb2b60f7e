use Rattle.std.proofs.Common.{◌≡◌, drop}
use Rattle.fq_column.specs.Frame.{has_name}
use Rattle.fq_expr.specs.Kinds.{item_names}
use Rattle.fq_expr.specs.ExpressionData.{items_of}
use Rattle.fq_expr.proofs.steps.has_name.Given as goal

abbrev pub invariant-loop-item : goal.invariant-loop-item
invariant-loop-item l = has_name (item_names (items_of (drop l.item-index l.items))) l.name ≡ has_name (item_names (items_of l.items)) l.name
