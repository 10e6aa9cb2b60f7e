use Rattle.std.proofs.Common.{◌≡◌, map, take, string_bytes}
use Rattle.fq_expr.specs.Kinds.{item_names}
use Rattle.fq_expr.specs.ExpressionData.{items_of}
use Rattle.fq_expr.proofs.steps.copy_names.Given as goal

abbrev pub invariant-loop-item : goal.invariant-loop-item
invariant-loop-item l = map string_bytes l.names.items ≡ item_names (items_of (take l.item-index l.items))
