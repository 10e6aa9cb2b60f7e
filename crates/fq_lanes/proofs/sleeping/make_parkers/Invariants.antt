use Rattle.std.proofs.Common.{◌≡◌, length}
use Rattle.fq_lanes.proofs.sleeping.make_parkers.Given as goal

abbrev pub invariant-loop : goal.invariant-loop
invariant-loop l = length l.parkers.items ≡ l.counter
