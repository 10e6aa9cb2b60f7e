use Rattle.std.proofs.Common.{◌≡◌, length, sym, ap, ◌∙◌, arith, inl, inr}
use Rattle.std.specs.List.{slice_get}
use Rattle.std.proofs.lemmas.Result.{err_from_is_err_and}
use Rattle.std.proofs.lemmas.Bool.{cases_lt}
use Rattle.fq_lanes.proofs.BesideLemmas.{get_within}
use Rattle.fq_lanes.proofs.RoundLemmas.{halted_back, reads_then}
use Rattle.fq_lanes.proofs.round.go_round.Goals as goal

pub returns-in_err-take_turn-clause-round : goal.returns-in_err-take_turn-clause-round
returns-in_err-take_turn-clause-round g c =
    let p = err_from_is_err_and c.from_residual.result c.from_residual.ensures.1 in
    rw (p.1, p.2) (λ feeds first items events r.
    let was = c.loop-file.invariant.round feeds first items events r in
    let bad = c.in_err-take_turn.ensures.round feeds first was.0 was.1 was.3 in
    (halted_back g.F.Feed.gives g.S.Tail.takes g.S.Tail.refuses feeds first items was.0 events was.1 c.take_turn.new.hub.tail was.2 bad.0, bad.1))

pub loop-file-preserved : goal.loop-file-preserved
loop-file-preserved g c = record {
  len = c.take_turn.ensures.len ∙ c.loop-file.invariant.len;
  round = λ feeds first items events r.
      let was = c.loop-file.invariant.round feeds first items events r in
      let now = c.in_ok-take_turn.ensures.round feeds first was.0 was.1 was.3 in
      (now.0, now.1, reads_then items was.0 now.0 events was.1 now.1 was.2 now.2, now.3);
  fewer = omega (arith, c.loop-file.invariant.fewer, c.in_ok-take_turn.ensures.fewer);
  more = omega (arith, c.loop-file.invariant.more, c.in_ok-take_turn.ensures.jobs.0);
  within = omega (arith, c.in_ok-take_turn.ensures.jobs.1);
  ended = λ same i inlet below e.
      let kept : length c.loop-file.jobs.items ≡ 0 = omega (arith, same, c.in_ok-take_turn.ensures.jobs.0) in
      elim (cases_lt i c.loop-file.file) [
        | inl lt ↦ c.loop-file.invariant.ended kept i inlet lt (sym (c.take_turn.ensures.others i (λ is. omega (arith, is, lt))) ∙ e)
        | inr le ↦
            let here : i ≡ c.loop-file.file = omega (arith, le, below) in
            c.in_ok-take_turn.ensures.ended same (λ k n lt at. c.loop-file.invariant.ended kept k n (omega (arith, lt)) at) inlet (ap (slice_get c.take_turn.new.inlets.items) (sym here) ∙ e)
      ];
}

pub returns-clause-ended : goal.returns-clause-ended
returns-clause-ended g c same i inlet e =
    let below = get_within c.loop-file.inlets.items i inlet e in
    c.loop-file.invariant.ended same i inlet (omega (arith, below, c.loop-file.invariant.len)) e
