use Rattle.std.proofs.Common.{rules, ◌≡◌, [], ◌∷◌, ◌++◌, length, refl, sym, subst, ap, ◌∙◌, None}
use Rattle.std.specs.Vec.Iter.{into_iter_items, into_iter_len}
use Rattle.std.proofs.lemmas.Result.{err_from_is_err_and}
use Rattle.fq_lanes.specs.Hub.{HasStopped}
use Rattle.fq_lanes.specs.Ledger.{times, Books}
use Rattle.fq_lanes.specs.Refusals.{refusal_now, Accepted}
use Rattle.fq_lanes.specs.Round.{AreWorked, job_numbers, answer_numbers}
use Rattle.fq_lanes.specs.FileWindow.{AreNear}
use Rattle.fq_lanes.specs.Sink.{file_count}
use Rattle.fq_lanes.specs.declared.events.Event.{Event}
use Rattle.fq_lanes.specs.declared.events.Event.TheVariants.{Offer}
use Rattle.fq_lanes.proofs.AnswerLemmas.{answers_work, answer_offer}
use Rattle.fq_lanes.proofs.HubLemmas.{stops_all}
use Rattle.fq_lanes.proofs.BesideLemmas.{nothing_in}
use Rattle.fq_lanes.proofs.round.work_jobs.Goals as goal

pub loop-answer-init : goal.loop-answer-init
loop-answer-init g c = record {
  files = refl;
  offers = λ first items events handed books offers jobs size near.
      let works = g.W.Work.gives c.args.work.now in
      let all : into_iter_items c.into_iter-answer-iterator.result ≡ c.in_ok-answers.answers.items = search rules in
      let both = answers_work works items c.args.jobs.items c.in_ok-answers.answers.items c.in_ok-answers.ensures jobs in
      let now = subst (λ l. Books items (λ f s. times f s (answer_numbers l)) events × AreWorked works items l × AreNear events (length items) (answer_numbers l)) (sym all)
      (subst (λ l. Books items (λ f s. times f s l) events) (sym both.1) books, both.0, subst (λ l. AreNear events (length items) l) (sym both.1) (subst (λ n. AreNear events n (job_numbers c.args.jobs.items)) size near)) in
      (events, now.0, offers, (λ f. refl), now.1, handed, now.2);
}

pub offer-requires : goal.offer-requires
offer-requires g c =
    let works = g.W.Work.gives c.args.work.now in
    let r = c.requires in
    let was = c.loop-answer.invariant.offers r.0 r.1 r.2 r.3 r.4 r.5 r.6 r.7 r.8 in
    let step : into_iter_items c.loop-answer.answer-iterator ≡ c.in-Some.answer ∷ into_iter_items c.next.new.self = search rules in
    let moved = answer_offer works r.1 was.0 c.in-Some.answer (into_iter_items c.next.new.self) c.in_ok-outcome.field-0 c.in_ok-outcome.was
    (subst (λ l. Books r.1 (λ f s. times f s (answer_numbers l)) was.0) step was.1) was.2 (subst (λ l. AreWorked works r.1 l) step was.4)
    (subst (λ n. Accepted n was.0) (c.loop-answer.invariant.files ∙ r.7) was.5.accepted.accepted) (subst (λ l. AreNear was.0 (length r.1) (answer_numbers l)) step was.6) in
    (was.0, _, was.5.accepted, ap (λ n. refusal_now n was.0 (Offer c.in-Some.answer.file c.in-Some.answer.serial c.in_ok-outcome.field-0)) (c.loop-answer.invariant.files ∙ r.7) ∙ moved.0)

pub loop-answer-preserved : goal.loop-answer-preserved
loop-answer-preserved g c = record {
  files = c.offer.ensures.files ∙ c.loop-answer.invariant.files;
  offers = λ first items events handed books offers jobs size near.
      let works = g.W.Work.gives c.args.work.now in
      let was = c.loop-answer.invariant.offers first items events handed books offers jobs size near in
      let step : into_iter_items c.loop-answer.answer-iterator ≡ c.in-Some.answer ∷ into_iter_items c.next.new.self = search rules in
      let moved = answer_offer works items was.0 c.in-Some.answer (into_iter_items c.next.new.self) c.in_ok-outcome.field-0 c.in_ok-outcome.was
      (subst (λ l. Books items (λ f s. times f s (answer_numbers l)) was.0) step was.1) was.2 (subst (λ l. AreWorked works items l) step was.4)
      (subst (λ n. Accepted n was.0) (c.loop-answer.invariant.files ∙ size) was.5.accepted.accepted) (subst (λ l. AreNear was.0 (length items) (answer_numbers l)) step was.6) in
      let e : Event g.row.W-Out.Denot = Offer c.in-Some.answer.file c.in-Some.answer.serial c.in_ok-outcome.field-0 in
      let free : refusal_now (file_count c.loop-answer.hub.sink) was.0 e ≡ None = ap (λ n. refusal_now n was.0 e) (c.loop-answer.invariant.files ∙ size) ∙ moved.0 in
      (was.0 ++ e ∷ [], moved.1, moved.2, (λ f. moved.3 f ∙ was.3 f), moved.4, c.in_ok-offer.ensures.handed first was.0 was.5 free, moved.5);
}

pub returns-clause-offers : goal.returns-clause-offers
returns-clause-offers g c first items events handed books offers jobs size near =
    let was = c.loop-answer.invariant.offers first items events handed books offers jobs size near in
    let empty : into_iter_len c.loop-answer.answer-iterator ≡ 0 = c.in-None.ensures.steps.0 in
    let size : length (into_iter_items c.loop-answer.answer-iterator) ≡ 0 = search rules in
    let none = nothing_in (into_iter_items c.loop-answer.answer-iterator) size in
    (was.0, (λ f s. times f s (answer_numbers (into_iter_items c.loop-answer.answer-iterator))), was.1, was.2, was.3, (was.5, λ f s. ap (λ l. times f s (answer_numbers l)) none))

pub returns-in_err-outcome-clause-offers : goal.returns-in_err-outcome-clause-offers
returns-in_err-outcome-clause-offers g c =
    let p = err_from_is_err_and c.from_residual-in_err-outcome.result c.from_residual-in_err-outcome.ensures.1 in
    rw p.1 (λ first items events handed books offers jobs size near.
    let was = c.loop-answer.invariant.offers first items events handed books offers jobs size near in (
      was.0,
      (λ f s. times f s (answer_numbers (into_iter_items c.loop-answer.answer-iterator))),
      was.1,
      was.2,
      was.3,
      subst (λ n. HasStopped g.S.Tail.takes g.S.Tail.refuses first was.0 n c.loop-answer.hub.tail) c.loop-answer.invariant.files
          (stops_all g.S.Tail.takes g.S.Tail.refuses first was.0 c.loop-answer.hub was.5),
    ))

pub returns-in_err-offer-clause-offers : goal.returns-in_err-offer-clause-offers
returns-in_err-offer-clause-offers g c =
    let p = err_from_is_err_and c.from_residual-in_err-offer.result c.from_residual-in_err-offer.ensures.1 in
    rw p.1 (λ first items events handed books offers jobs size near.
    let works = g.W.Work.gives c.args.work.now in
    let was = c.loop-answer.invariant.offers first items events handed books offers jobs size near in
    let step : into_iter_items c.loop-answer.answer-iterator ≡ c.in-Some.answer ∷ into_iter_items c.next.new.self = search rules in
    let moved = answer_offer works items was.0 c.in-Some.answer (into_iter_items c.next.new.self) c.in_ok-outcome.field-0 c.in_ok-outcome.was
    (subst (λ l. Books items (λ f s. times f s (answer_numbers l)) was.0) step was.1) was.2 (subst (λ l. AreWorked works items l) step was.4)
    (subst (λ n. Accepted n was.0) (c.loop-answer.invariant.files ∙ size) was.5.accepted.accepted) (subst (λ l. AreNear was.0 (length items) (answer_numbers l)) step was.6) in
    let e : Event g.row.W-Out.Denot = Offer c.in-Some.answer.file c.in-Some.answer.serial c.in_ok-outcome.field-0 in
    let free : refusal_now (file_count c.loop-answer.hub.sink) was.0 e ≡ None = ap (λ n. refusal_now n was.0 e) (c.loop-answer.invariant.files ∙ size) ∙ moved.0 in (
      was.0 ++ e ∷ [],
      (λ f s. times f s (answer_numbers (into_iter_items c.next.new.self))),
      moved.1,
      moved.2,
      (λ f. moved.3 f ∙ was.3 f),
      subst (λ n. HasStopped g.S.Tail.takes g.S.Tail.refuses first (was.0 ++ e ∷ []) n c.offer.new.self.tail) c.loop-answer.invariant.files
          (c.in_err-offer.ensures.handed first was.0 was.5 free),
    ))
