use Rattle.std.proofs.Common.{◌≡◌, ℕ, List}
use Rattle.fq_lanes.specs.Sink.{file_count, waiting_in}
use Rattle.fq_lanes.specs.Hub.{HandsOn}
use Rattle.fq_lanes.specs.declared.events.Event.{Event}
use Rattle.fq_lanes.proofs.hub.Hub.hand_on.Given as goal

abbrev pub invariant-loop-file : goal.invariant-loop-file
invariant-loop-file g l = record {
  files : file_count l.self.sink ≡ file_count l.initial.self.sink;
  hands : (first : g.row.S.Denot) (events : List (Event g.row.O.Denot)) (log : List (ℕ × ℕ × g.row.O.Denot)) → HandsOn g.S.Tail.takes first events log l.initial.self
      → (now : List (ℕ × ℕ × g.row.O.Denot)) × HandsOn g.S.Tail.takes first events now l.self;
}

abbrev pub decreases-loop-file : goal.decreases-loop-file
decreases-loop-file g l = waiting_in l.self.sink
