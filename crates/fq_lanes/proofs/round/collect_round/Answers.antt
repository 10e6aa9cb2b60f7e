use Rattle.std.proofs.Common.{rules, ◌∙◌, arith}
use Rattle.std.proofs.lemmas.Result.{err_from_is_err_and}
use Rattle.fq_lanes.proofs.RoundLemmas.{halted_back, reads_then}
use Rattle.fq_lanes.proofs.round.collect_round.Goals as goal

pub returns-in_err-go_round-clause-round : goal.returns-in_err-go_round-clause-round
returns-in_err-go_round-clause-round g c =
    let p = err_from_is_err_and c.from_residual.result c.from_residual.ensures.1 in
    rw (p.1, p.2) (λ feeds first items events r.
    let was = c.loop-jobs.invariant.round feeds first items events r in
    let bad = c.in_err-go_round.ensures.round feeds first was.0 was.1 was.3 in
    (halted_back g.F.Feed.gives g.S.Tail.takes g.S.Tail.refuses feeds first items was.0 events was.1 c.go_round.new.hub.tail was.2 bad.0, bad.1))

pub returns-then-len-before-clause-round : goal.returns-then-len-before-clause-round
returns-then-len-before-clause-round g c feeds first items events r =
    let was = c.loop-jobs.invariant.round feeds first items events r in
    let now = c.in_ok-go_round.ensures.round feeds first was.0 was.1 was.3 in
    (now.0, now.1, reads_then items was.0 now.0 events was.1 now.1 was.2 now.2, now.3)

pub loop-jobs-preserved : goal.loop-jobs-preserved
loop-jobs-preserved g c = record {
  len = c.go_round.ensures.len ∙ c.loop-jobs.invariant.len;
  round = λ feeds first items events r.
      let was = c.loop-jobs.invariant.round feeds first items events r in
      let now = c.in_ok-go_round.ensures.round feeds first was.0 was.1 was.3 in
      (now.0, now.1, reads_then items was.0 now.0 events was.1 now.1 was.2 now.2, now.3);
  fewer = omega (arith, c.loop-jobs.invariant.fewer, c.in_ok-go_round.ensures.fewer);
  room = search rules;
}
