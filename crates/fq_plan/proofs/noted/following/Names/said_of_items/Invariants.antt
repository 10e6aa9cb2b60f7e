use Rattle.std.proofs.Common.{◌≡◌, map, take}
use Rattle.fq_expr.specs.ExpressionData.{items_of}
use Rattle.fq_plan.specs.PlannedSteps.{said_in}
use Rattle.fq_plan.proofs.noted.following.Names.said_of_items.Given as goal

abbrev pub invariant-loop-item : goal.invariant-loop-item
invariant-loop-item l = l.said.items ≡ map (λ i. said_in l.self i.0) (items_of (take l.item-index l.items))
