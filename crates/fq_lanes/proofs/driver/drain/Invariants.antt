use Rattle.std.proofs.Common.{◌≡◌, length, List}
use mathlib.Core.List.{IsPrefix}
use Rattle.fq_lanes.specs.Due.{due}
use Rattle.fq_lanes.specs.Sink.{HasAccepted, file_count, waiting_in}
use Rattle.fq_lanes.specs.declared.events.Event.{Event}
use Rattle.fq_lanes.proofs.driver.drain.Given as goal

abbrev pub invariant-loop-next : goal.invariant-loop-next
invariant-loop-next g l =
    (file_count l.sink ≡ file_count l.initial.sink)
    × ((es : List (Event g.row.T.Denot)) → HasAccepted l.initial.sink es (length l.initial.taken.items) → IsPrefix l.initial.taken.items (due es (file_count l.initial.sink))
    → HasAccepted l.sink es (length l.taken.items) × IsPrefix l.taken.items (due es (file_count l.initial.sink)))

abbrev pub decreases-loop-next : goal.decreases-loop-next
decreases-loop-next g l = waiting_in l.sink
