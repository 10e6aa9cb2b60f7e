use Rattle.std.proofs.Common.{◌≡◌, length, []}
use Rattle.fq_lanes.specs.Sink.{Fresh}
use Rattle.fq_lanes.proofs.sinks.Sink.new.Given as goal

abbrev pub invariant-loop : goal.invariant-loop
invariant-loop g l = (length l.made.items ≡ l.counter) × Fresh l.made.items [] 0
