use Rattle.std.proofs.Common.{ap, ◌∙◌}
use Rattle.fq_lanes.specs.Lane.{put_name}
use Rattle.fq_lanes.proofs.threads.start_feed.Goals as goal

pub returns-in-Ok-clause-started : goal.returns-in-Ok-clause-started
returns-in-Ok-clause-started g c =
    let opened = c.in_ok-put.ensures.opened in (
      opened.0,
      opened.1,
      opened.2,
      ap (λ p. p.feed.value) c.in-Ok.ensures.ok ∙ c.of.ensures,
      ap put_name (ap (λ p. p.put.value) c.in-Ok.ensures.ok ∙ c.of-2.ensures) ∙ opened.3,
    )
