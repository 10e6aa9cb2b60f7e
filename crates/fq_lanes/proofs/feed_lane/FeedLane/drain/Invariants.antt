use Rattle.std.proofs.Common.{◌≡◌, None}
use mathlib.Core.List.{IsPrefix}
use Rattle.fq_lanes.specs.HubView.{end_told}
use Rattle.fq_lanes.specs.Lane.{taken_items, take_name}
use Rattle.fq_lanes.proofs.feed_lane.FeedLane.drain.Given as goal

abbrev pub invariant-loop : goal.invariant-loop
invariant-loop g l = record {
  name : take_name l.self.take ≡ take_name l.initial.self.take;
  told : IsPrefix (taken_items l.initial.self.take) (taken_items l.self.take);
  unended : end_told (taken_items l.initial.self.take) ≡ None → end_told (taken_items l.self.take) ≡ None;
}
