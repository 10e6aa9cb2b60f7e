use Rattle.std.specs.Vec.Iter.{into_iter_len}
use Rattle.fq_lanes.proofs.threads.+start_feeds.Given as goal

abbrev pub decreases-start_feeds : goal.decreases-start_feeds
decreases-start_feeds g l = into_iter_len l.feeds.now
