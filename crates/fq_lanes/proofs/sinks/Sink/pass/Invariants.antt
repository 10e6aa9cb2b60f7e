use Rattle.std.proofs.Common.{◌≡◌, ◌-◌, length, List, ℕ}
use Rattle.fq_lanes.specs.Sink.{HasAccepted}
use Rattle.fq_lanes.specs.declared.events.Event.{Event}
use Rattle.fq_lanes.proofs.sinks.Sink.pass.Given as goal

abbrev pub invariant-loop-self : goal.invariant-loop-self
invariant-loop-self g l = (l.self.files ≡ l.initial.self.files) × ((es : List (Event g.row.T.Denot)) (t : ℕ) → HasAccepted l.initial.self es t → HasAccepted l.self es t)

abbrev pub decreases-loop-self : goal.decreases-loop-self
decreases-loop-self g l = length l.self.files.items - l.self.at
