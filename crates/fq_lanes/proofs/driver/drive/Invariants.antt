use Rattle.std.proofs.Common.{◌≡◌, length, List, [], map}
use Rattle.fq_lanes.specs.Due.{due}
use Rattle.fq_lanes.specs.Refusals.{accepted_of, refused_of}
use Rattle.fq_lanes.specs.Sink.{HasAccepted, file_count}
use Rattle.fq_lanes.specs.declared.events.Event.{Event}
use Rattle.fq_lanes.proofs.driver.drive.Given as goal

abbrev pub invariant-loop-number : goal.invariant-loop-number
invariant-loop-number g l =
    let es : List (Event g.row.T.Denot) = map (λ p. p.1) l.yielded in
    (file_count l.sink ≡ l.files) × HasAccepted l.sink (accepted_of l.files [] es) (length l.taken.items)
    × (l.taken.items ≡ due (accepted_of l.files [] es) l.files) × (l.refused.items ≡ refused_of l.files 0 [] es)
