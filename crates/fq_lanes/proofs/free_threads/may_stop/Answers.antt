use Rattle.fq_lanes.proofs.NothingReadLemmas.{stops_at_once}
use Rattle.fq_lanes.proofs.free_threads.may_stop.Goals as goal

pub returns : goal.returns
returns g c = stops_at_once g.F.Feed.gives (g.W.Work.gives c.args.work.now) g.S.Tail.takes g.S.Tail.refuses c.args.feeds.now.items c.args.tail.now g.met.F.Feed.satisfiable
