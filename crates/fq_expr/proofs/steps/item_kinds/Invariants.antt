use Rattle.std.proofs.Common.{◌≡◌, ◌++◌, drop, Ok}
use Rattle.fq_column.specs.Refusal.{and_then}
use Rattle.fq_expr.specs.ExpressionData.{items_of}
use Rattle.fq_expr.specs.Outputs.{all_kinds}
use Rattle.fq_expr.proofs.steps.item_kinds.Given as goal

abbrev pub invariant-loop-item : goal.invariant-loop-item
invariant-loop-item l = all_kinds l.schema (items_of l.items) ≡ and_then (all_kinds l.schema (items_of (drop l.item-index l.items))) (λ rest. Ok (l.kinds.items ++ rest))
