use Rattle.std.proofs.Common.{◌≡◌, List, [], length}
use Rattle.fq_lanes.specs.Inlet.{left_in}
use Rattle.fq_lanes.specs.Ledger.{OffersWorked}
use Rattle.fq_lanes.specs.Round.{InRound}
use Rattle.fq_lanes.specs.declared.events.Event.{Event}
use Rattle.fq_lanes.proofs.rounds.run_open.Given as goal

abbrev pub invariant-loop-jobs : goal.invariant-loop-jobs
invariant-loop-jobs g l = record {
  len : length l.inlets.items ≡ length l.initial.inlets.items;
  round : (feeds : List g.row.F.Denot) (first : g.row.S.Denot) (items : List (List g.row.F-Item.Denot)) (events : List (Event g.row.W-Out.Denot))
      → InRound g.F.Feed.gives g.F.Feed.is_open g.F.Feed.may_fail g.F.Feed.most g.S.Tail.takes feeds first items events l.initial.inlets.items l.initial.hub []
      → OffersWorked (g.W.Work.gives l.fn.work) items events
      → (items' : List (List g.row.F-Item.Denot)) × (events' : List (Event g.row.W-Out.Denot))
      × InRound g.F.Feed.gives g.F.Feed.is_open g.F.Feed.may_fail g.F.Feed.most g.S.Tail.takes feeds first items' events' l.inlets.items l.hub []
      × OffersWorked (g.W.Work.gives l.fn.work) items' events';
}

abbrev pub decreases-loop-jobs : goal.decreases-loop-jobs
decreases-loop-jobs g l = left_in g.F.Feed.most l.inlets.items
