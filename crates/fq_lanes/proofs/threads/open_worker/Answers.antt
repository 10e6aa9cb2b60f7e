use Rattle.std.proofs.Common.{ap, sym, ◌∙◌}
use Rattle.fq_lanes.specs.Lane.{put_items, taken_items, put_name, take_name}
use Rattle.fq_lanes.proofs.ThreadLemmas.{idle_at_first}
use Rattle.fq_lanes.proofs.threads.open_worker.Goals as goal

pub returns-in-Ok-clause-opened : goal.returns-in-Ok-clause-opened
returns-in-Ok-clause-opened g c =
    let idle = idle_at_first c.new.result (ap put_items c.new.ensures.0 ∙ c.in_ok-jobs.ensures.empty.0)
    (ap taken_items c.new.ensures.1 ∙ c.in_ok-their_answers.ensures.empty.1) c.new.ensures.2 in (
      c.new.result,
      c.in-Ok.ensures.items,
      idle,
      ap put_name c.new.ensures.0 ∙ c.in_ok-jobs.ensures.pair,
      c.in_ok-their_answers.ensures.pair ∙ sym (ap take_name c.new.ensures.1),
      c.in_ok-jobs.ensures.empty.1,
      c.in_ok-their_answers.ensures.empty.0,
    )
