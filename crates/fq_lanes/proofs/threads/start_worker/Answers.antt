use Rattle.std.proofs.Common.{ap, sym, ◌∙◌}
use Rattle.fq_lanes.specs.Lane.{put_name, take_name}
use Rattle.fq_lanes.proofs.threads.start_worker.Goals as goal

pub returns-in-Ok-clause-started : goal.returns-in-Ok-clause-started
returns-in-Ok-clause-started g c =
    let opened = c.in_ok-their_jobs.ensures.opened in
    let jobs = opened.3 ∙ sym (ap take_name (ap (λ p. p.jobs.value) c.in-Ok.ensures.ok ∙ c.of-2.ensures)) in
    let answers = sym opened.4 ∙ sym (ap put_name (ap (λ p. p.answers.value) c.in-Ok.ensures.ok ∙ c.of-3.ensures)) in (
      opened.0,
      opened.1,
      opened.2,
      ap (λ p. p.work.value) c.in-Ok.ensures.ok ∙ c.of.ensures,
      (λ i. (jobs i, answers i)),
    )
