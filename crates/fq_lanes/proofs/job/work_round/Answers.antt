use Rattle.std.proofs.Common.{rules, ◌≡◌, length, sym, subst, ◌∙◌, get_or}
use Rattle.fq_lanes.specs.Round.{Answers}
use Rattle.fq_lanes.proofs.BesideLemmas.{each_by_place}
use Rattle.fq_lanes.proofs.job.work_round.Goals as goal

pub returns-in-Ok : goal.returns-in-Ok
returns-in-Ok g c =
    let works = g.W.Work.gives c.args.work.now in
    let even : length c.in-Ok.answers.items ≡ length c.args.jobs.items = search rules in
    each_by_place (Answers works) c.args.jobs.items c.in-Ok.answers.items even
    (λ i x y below p q.
    let given = (c.in-Ok.ensures.each i y below).1 in
    let job = sym p ∙ given.job_is x in
    let called : Answers works given.job (get_or c.in-Ok.answers.items i y) = search (rules, given.call) in
    subst (λ j. Answers works j y) (sym job) (subst (λ r. Answers works given.job r) q called))
