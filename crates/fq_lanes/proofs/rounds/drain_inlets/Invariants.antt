use Rattle.std.proofs.Common.{◌≡◌, ◌≤◌, ◌<◌, ℕ, List, Some, true, length}
use Rattle.std.specs.List.{slice_get}
use Rattle.fq_lanes.specs.Engine.{BlamesFeed}
use Rattle.fq_lanes.specs.Faults.{Precedes}
use Rattle.fq_lanes.specs.Inlet.{DrainsOne}
use Rattle.fq_lanes.specs.declared.inlet.Inlet.{Inlet}
use Rattle.fq_lanes.specs.Beside.{Each}
use Rattle.fq_lanes.proofs.rounds.drain_inlets.Given as goal

abbrev pub invariant-loop-file : goal.invariant-loop-file
invariant-loop-file g l = record {
  len : length l.inlets.items ≡ length l.initial.inlets.items;
  ended : (i : ℕ) (n : Inlet g.row.F.Denot) → i < l.file → slice_get l.inlets.items i ≡ Some n → n.ended ≡ true;
  given : Precedes l.first l.initial.first;
  rest : (i : ℕ) → l.file ≤ i → slice_get l.inlets.items i ≡ slice_get l.initial.inlets.items i;
  blames : (feeds : List g.row.F.Denot) → Each (DrainsOne g.F.Feed.is_open g.F.Feed.may_fail) feeds l.initial.inlets.items
      → BlamesFeed g.F.Feed.may_fail feeds l.initial.first → BlamesFeed g.F.Feed.may_fail feeds l.first;
}
