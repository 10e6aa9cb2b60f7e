use Rattle.std.proofs.Common.{◌≡◌, length, sym, ◌∙◌, arith}
use Rattle.std.proofs.lemmas.Grind.{common_steps}
use Rattle.std.proofs.lemmas.Result.{err_from_is_err_and}
use Rattle.fq_lanes.specs.Sink.{file_count}
use Rattle.fq_lanes.proofs.InletLemmas.{gave_sizes, gave_drains}
use Rattle.fq_lanes.proofs.RoundLemmas.{halted}
use Rattle.fq_lanes.proofs.RoundRunLemmas.{offers_on, stops_early, round_worked, finishes}
use Rattle.fq_lanes.proofs.rounds.run_open.Goals as goal

pub returns-in_err-jobs-clause-runs : goal.returns-in_err-jobs-clause-runs
returns-in_err-jobs-clause-runs g c =
    let p = err_from_is_err_and c.from_residual.result c.from_residual.ensures.1 in
    rw (p.1, p.2) (λ feeds first items events r offers.
    let was = c.loop-jobs.invariant.round feeds first items events r offers in
    let bad = c.in_err-jobs.ensures.round feeds first was.0 was.1 was.2 in
    (stops_early g.F.Feed.gives (g.W.Work.gives c.args.work.now) g.S.Tail.takes g.S.Tail.refuses feeds first was.0 was.1 c.collect_round.new.hub.tail bad.0 was.3, bad.1))

pub returns-then-is_empty-clause-runs : goal.returns-then-is_empty-clause-runs
returns-then-is_empty-clause-runs g c feeds first items events r offers =
    let was = c.loop-jobs.invariant.round feeds first items events r offers in
    let now = c.in_ok-jobs.ensures.round feeds first was.0 was.1 was.2 in
    let none : length c.in_ok-jobs.jobs.items ≡ 0 = grind (arith, common_steps, c.is_empty.ensures, c.if-is_empty.true) in
    finishes g.F.Feed.gives g.F.Feed.is_open g.F.Feed.may_fail g.F.Feed.most (g.W.Work.gives c.args.work.now) g.S.Tail.takes feeds first now.0 now.1
    c.collect_round.new.inlets.items c.collect_round.new.hub c.in_ok-jobs.jobs.items now.3
    (offers_on (g.W.Work.gives c.args.work.now) was.0 now.0 was.1 now.1 now.2 was.3) none (c.in_ok-jobs.ensures.ended none)

pub work_jobs-requires-after_bounds : goal.work_jobs-requires-after_bounds
work_jobs-requires-after_bounds g c _ _ =
    let r = c.requires.round in
    let was = c.loop-jobs.invariant.round r.0 r.1 r.2 r.3 r.4 r.5 in
    let now = c.in_ok-jobs.ensures.round r.0 r.1 was.0 was.1 was.2 in
    let sizes = gave_sizes g.F.Feed.gives g.F.Feed.is_open g.F.Feed.may_fail g.F.Feed.most r.0 now.0 c.collect_round.new.inlets.items now.3.gave in
    (r.1, now.0, now.1, now.3.handed, now.3.books, offers_on (g.W.Work.gives c.args.work.now) was.0 now.0 was.1 now.1 now.2 was.3, now.3.waits, now.3.files ∙ sym sizes.0, now.3.near)

pub loop-jobs-preserved : goal.loop-jobs-preserved
loop-jobs-preserved g c = record {
  len = c.collect_round.ensures.len ∙ c.loop-jobs.invariant.len;
  round = λ feeds first items events r offers.
      let was = c.loop-jobs.invariant.round feeds first items events r offers in
      let now = c.in_ok-jobs.ensures.round feeds first was.0 was.1 was.2 in
      let sizes = gave_sizes g.F.Feed.gives g.F.Feed.is_open g.F.Feed.may_fail g.F.Feed.most feeds now.0 c.collect_round.new.inlets.items now.3.gave in
      let done = c.in-Ok.ensures.offers first now.0 now.1 now.3.handed now.3.books (offers_on (g.W.Work.gives c.args.work.now) was.0 now.0 was.1 now.1 now.2 was.3) now.3.waits (now.3.files ∙ sym sizes.0) now.3.near in (
        now.0,
        done.0,
        round_worked g.F.Feed.gives g.F.Feed.is_open g.F.Feed.may_fail g.F.Feed.most g.S.Tail.takes feeds first now.0 now.1 done.0 done.1 c.collect_round.new.inlets.items c.collect_round.new.hub c.work_jobs.new.hub
            c.in_ok-jobs.jobs.items now.3 done.2 done.4 done.5.1 done.5.0 c.work_jobs.ensures.files,
        done.3,
      );
}

pub returns-in_default-clause-runs : goal.returns-in_default-clause-runs
returns-in_default-clause-runs g c feeds first items events r offers =
    let was = c.loop-jobs.invariant.round feeds first items events r offers in
    let now = c.in_ok-jobs.ensures.round feeds first was.0 was.1 was.2 in
    let sizes = gave_sizes g.F.Feed.gives g.F.Feed.is_open g.F.Feed.may_fail g.F.Feed.most feeds now.0 c.collect_round.new.inlets.items now.3.gave in
    let done = c.in_default.ensures.offers first now.0 now.1 now.3.handed now.3.books (offers_on (g.W.Work.gives c.args.work.now) was.0 now.0 was.1 now.1 now.2 was.3) now.3.waits (now.3.files ∙ sym sizes.0) now.3.near in (
      stops_early g.F.Feed.gives (g.W.Work.gives c.args.work.now) g.S.Tail.takes g.S.Tail.refuses feeds first now.0 done.0 c.work_jobs.new.hub.tail
          (halted g.F.Feed.gives g.F.Feed.is_open g.F.Feed.may_fail g.F.Feed.most g.S.Tail.takes g.S.Tail.refuses feeds first now.0 done.1 done.0 c.collect_round.new.inlets.items
          (file_count c.collect_round.new.hub.sink) c.work_jobs.new.hub.tail g.met.F.Feed.satisfiable now.3.gave done.2 (λ i n e. done.4 i ∙ now.3.closed i n e) now.3.files done.5)
          done.3,
      (gave_drains g.F.Feed.gives g.F.Feed.is_open g.F.Feed.may_fail g.F.Feed.most feeds now.0 c.collect_round.new.inlets.items now.3.gave, tt),
    )
