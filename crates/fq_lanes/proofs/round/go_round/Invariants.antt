use Rattle.std.proofs.Common.{◌≡◌, ◌≤◌, ◌<◌, ◌+◌, ℕ, List, length, Some, true}
use Rattle.std.specs.List.{slice_get}
use Rattle.fq_lanes.specs.Inlet.{left_in}
use Rattle.fq_lanes.specs.Ledger.{Reads}
use Rattle.fq_lanes.specs.Round.{InRound}
use Rattle.fq_lanes.specs.declared.events.Event.{Event}
use Rattle.fq_lanes.specs.declared.inlet.Inlet.{Inlet}
use Rattle.fq_lanes.proofs.round.go_round.Given as goal

abbrev pub invariant-loop-file : goal.invariant-loop-file
invariant-loop-file g l = record {
  len : length l.inlets.items ≡ length l.initial.inlets.items;
  round : (feeds : List g.row.F.Denot) (first : g.row.S.Denot) (items : List (List g.row.F-Item.Denot)) (events : List (Event g.row.S-Out.Denot))
      → InRound g.F.Feed.gives g.F.Feed.is_open g.F.Feed.may_fail g.F.Feed.most g.S.Tail.takes feeds first items events l.initial.inlets.items l.initial.hub l.initial.jobs.items
      → (items' : List (List g.row.F-Item.Denot)) × (events' : List (Event g.row.S-Out.Denot)) × Reads items items' events events'
      × InRound g.F.Feed.gives g.F.Feed.is_open g.F.Feed.may_fail g.F.Feed.most g.S.Tail.takes feeds first items' events' l.inlets.items l.hub l.jobs.items;
  fewer : left_in g.F.Feed.most l.inlets.items + length l.jobs.items ≤ left_in g.F.Feed.most l.initial.inlets.items + length l.initial.jobs.items;
  more : length l.initial.jobs.items ≤ length l.jobs.items;
  within : length l.jobs.items ≤ l.workers;
  ended : length l.jobs.items ≡ 0 → (i : ℕ) (inlet : Inlet g.row.F.Denot) → i < l.file → slice_get l.inlets.items i ≡ Some inlet → inlet.ended ≡ true;
}
