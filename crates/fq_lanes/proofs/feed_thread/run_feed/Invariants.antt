use Rattle.std.proofs.Common.{◌≡◌, List, map}
use Rattle.fq_lanes.specs.Lane.{put_items, SamePut}
use Rattle.fq_lanes.specs.FeedThread.{Leads}
use Rattle.fq_lanes.specs.declared.messages.FromFeed.TheVariants.{Item}
use Rattle.fq_lanes.proofs.feed_thread.run_feed.Given as goal

abbrev pub invariant-loop : goal.invariant-loop
invariant-loop g l = record {
  same : SamePut l.initial.put l.put;
  is_open : g.F.Feed.is_open l.feed;
  fail : g.F.Feed.may_fail l.feed → g.F.Feed.may_fail l.initial.feed;
  put : (xs : List _) × (put_items l.put ≡ map Item xs) × Leads g.F.Feed.gives l.initial.feed xs l.feed;
}
