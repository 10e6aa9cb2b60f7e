use Rattle.std.proofs.Common.{sym, subst, ap}
use Rattle.fq_lanes.specs.Engine.{StopsEarly}
use Rattle.fq_lanes.proofs.JoinedThreadLemmas.{lanes_finish, lanes_stop, blames_feed, run_ok, run_err}
use Rattle.fq_lanes.proofs.free_threads.run_lanes.Goals as goal

pub returns-in-Err-clause-stopped : goal.returns-in-Err-clause-stopped
returns-in-Err-clause-stopped g c =
    let same = rw c.in-Err.is at c.run_threads-run.ensures.refused in
    subst (λ t. StopsEarly g.F.Feed.gives (g.W.Work.gives c.args.work.now) g.S.Tail.takes g.S.Tail.refuses c.args.feeds.items c.args.tail t) (sym (ap (λ r. r.hub.tail) same)) c.may_stop.ensures

pub returns-in-Ok-outcome-clause-done : goal.returns-in-Ok-outcome-clause-done
returns-in-Ok-outcome-clause-done g c =
    let (told, began, (ds, replied, done)) = rw c.in-Ok-started.is at c.run_threads-run.ensures.done in
    let hub = c.run_threads-run.result.0.hub in
    let settled = run_ok g.S.Tail.takes g.S.Tail.refuses c.args.tail told ds hub c.run_threads-run.result.0.outcome _ done c.in-Ok-outcome.is in
    lanes_finish g.F.Feed.gives g.F.Feed.may_fail (g.W.Work.gives c.args.work.now) g.S.Tail.takes c.args.feeds.items c.args.tail told ds hub settled.0 began replied settled.1

pub returns-clause-stopped : goal.returns-clause-stopped
returns-clause-stopped g c =
    let (told, began, (ds, replied, done)) = rw c.in-Ok-started.is at c.run_threads-run.ensures.done in
    let hub = c.run_threads-run.result.0.hub in
    let ((events, halt), blames, precedes) = run_err g.S.Tail.takes g.S.Tail.refuses c.args.tail told ds hub c.run_threads-run.result.0.outcome c.in-Err-outcome.fault done c.in-Err-outcome.is in
    lanes_stop g.F.Feed.gives g.F.Feed.may_fail (g.W.Work.gives c.args.work.now) g.S.Tail.takes g.S.Tail.refuses c.args.feeds.items c.args.tail told ds hub.tail events began replied halt

pub returns-clause-fault : goal.returns-clause-fault
returns-clause-fault g c =
    let (told, began, (ds, replied, done)) = rw c.in-Ok-started.is at c.run_threads-run.ensures.done in
    let hub = c.run_threads-run.result.0.hub in
    let ((events, halt), blames, precedes) = run_err g.S.Tail.takes g.S.Tail.refuses c.args.tail told ds hub c.run_threads-run.result.0.outcome c.in-Err-outcome.fault done c.in-Err-outcome.is in
    blames_feed g.F.Feed.gives g.F.Feed.may_fail c.args.feeds.items told c.in-Err-outcome.fault began blames
