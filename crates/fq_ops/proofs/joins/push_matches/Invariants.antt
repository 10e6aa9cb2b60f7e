use Rattle.std.proofs.Common.{◌≡◌, ◌++◌, map, take, Some}
use Rattle.fq_ops.proofs.joins.push_matches.Given as goal

abbrev pub invariant-loop-right : goal.invariant-loop-right
invariant-loop-right l = l.pairs ≡ l.initial.pairs ++ map (λ r. (l.left, Some r)) (take l.right-index l.matches)
