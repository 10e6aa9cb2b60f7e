use Rattle.std.proofs.Common.{rules, [], ◌∷◌, ◌++◌, Some}
use Rattle.fq_lanes.proofs.FeedThreadLemmas.{leads_more, told_more}
use Rattle.fq_lanes.proofs.feed_thread.run_feed.Goals as goal

pub loop-preserved : goal.loop-preserved
loop-preserved g c =
    let was = c.loop.invariant in
    let gave = rw c.in-Ok-Some.field-0-is at c.in-Ok-Some.ensures in
    record {
      same = search rules;
      is_open = gave.open.0;
      fail = λ f. was.fail (gave.open.2 f);
      put = (
        was.put.0 ++ c.in-Ok-Some.item ∷ [],
        told_more _ _ was.put.0 c.in-Ok-Some.item was.put.1 c.put_ahead.ensures.put,
        leads_more g.F.Feed.gives _ _ _ was.put.0 c.in-Ok-Some.item was.put.2 gave.gives,
      );
    }

pub returns-in-Err-clause-scanned : goal.returns-in-Err-clause-scanned
returns-in-Err-clause-scanned g c =
    let was = c.loop.invariant in
    let rest = g.met.F.Feed.satisfiable c.loop.feed in
    (was.put.0, rest.0, Some c.in-Err.fault, search rules, was.put.2 rest.0 rest.1, search rules, λ e. was.fail (c.in-Err.ensures.fault cc))
