use Rattle.std.proofs.Common.{◌≡◌, map, take}
use Rattle.fq_plan.specs.PlannedSteps.{right_said_in}
use Rattle.fq_plan.proofs.noted.following.Names.said_of_right.Given as goal

abbrev pub invariant-loop-place : goal.invariant-loop-place
invariant-loop-place l = l.said.items ≡ map (right_said_in l.self l.left) (take l.place l.right)
