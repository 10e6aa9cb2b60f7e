use Rattle.std.specs.List.{slice_get}
use Rattle.std.proofs.Common.{◌≡◌, ◌≤◌, ◌<◌, ℕ, Option, Some, IfSome, false, true, length}
use mathlib.Core.List.{IsPrefix}
use Rattle.fq_lanes.specs.Faults.{Precedes, fault_at}
use Rattle.fq_lanes.specs.FeedLane.{feed_names, feed_views, told_of}
use Rattle.fq_lanes.specs.HubView.{Grows, Tells, told_in}
use Rattle.fq_lanes.specs.Turns.{BlamesTold, PrecedesTold}
use Rattle.fq_lanes.specs.declared.faults.FeedFault.{FeedFault}
use Rattle.fq_lanes.specs.declared.feed_lane.FeedLane.{FeedLane}
use Rattle.fq_lanes.specs.declared.messages.FromFeed.TheVariants.{End}
use Rattle.fq_lanes.proofs.drains.drain_lanes.Given as goal

abbrev pub invariant-loop-file : goal.invariant-loop-file
invariant-loop-file g l = record {
  size : length l.lanes.items ≡ length l.initial.lanes.items;
  names : feed_names l.lanes.items ≡ feed_names l.initial.lanes.items;
  grows : Grows IsPrefix (told_in (feed_views l.initial.lanes.items)) (told_in (feed_views l.lanes.items));
  rest : (j : ℕ) → l.file ≤ j → slice_get l.lanes.items j ≡ slice_get l.initial.lanes.items j;
  ended : (j : ℕ) (n : FeedLane g.row.X.Denot) → j < l.file → slice_get l.lanes.items j ≡ Some n → n.ended ≡ true;
  given : Precedes l.first l.initial.first;
  theirs : (j : ℕ) (old new : FeedLane g.row.X.Denot) → j < l.file → slice_get l.initial.lanes.items j ≡ Some old → slice_get l.lanes.items j ≡ Some new → old.ended ≡ false
      → (end : Option FeedFault) × Tells (told_of new) (End end) × IfSome end (λ e. Precedes l.first (fault_at e j));
  blames : BlamesTold (told_in (feed_views l.initial.lanes.items)) l.initial.first → BlamesTold (told_in (feed_views l.lanes.items)) l.first;
  precedes : PrecedesTold (told_in (feed_views l.initial.lanes.items)) l.initial.first → PrecedesTold (told_in (feed_views l.lanes.items)) l.first;
}
