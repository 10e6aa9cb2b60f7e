use Rattle.fq_lanes.proofs.inlet.drain_feed.Given as goal

abbrev pub invariant-loop-fault : goal.invariant-loop-fault
invariant-loop-fault g l = record {
  opens : g.F.Feed.is_open l.feed;
  fails : g.F.Feed.may_fail l.feed → g.F.Feed.may_fail l.initial.feed;
}

abbrev pub decreases-loop-fault : goal.decreases-loop-fault
decreases-loop-fault g l = g.F.Feed.most l.feed
