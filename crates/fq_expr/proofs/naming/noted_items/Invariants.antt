use Rattle.std.proofs.Common.{◌≡◌, drop}
use Rattle.fq_notation.specs.Naming.{before_all}
use Rattle.fq_expr.specs.ExpressionData.{items_of}
use Rattle.fq_expr.specs.Naming.{items_noted}
use Rattle.fq_expr.proofs.naming.noted_items.Given as goal

abbrev pub invariant-loop-place : goal.invariant-loop-place
invariant-loop-place l =
    items_noted l.schema l.named l.said 0 (items_of l.items)
    ≡ before_all l.made (items_noted l.schema l.named l.said l.place (items_of (drop l.place l.items)))
