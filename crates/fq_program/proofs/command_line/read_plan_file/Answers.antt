use Rattle.std.proofs.Common.{◌∙◌}
use Rattle.fq_program.proofs.NamedLemmas.{on_ok_known, outside-memory}
use Rattle.fq_program.proofs.command_line.read_plan_file.Goals as goal

pub returns-in-Ok-clause-read : goal.returns-in-Ok-clause-read
returns-in-Ok-clause-read g c text known =
    outside-memory text _ c.checked_plan.result (c.as_slice.ensures.value ∙ c.in-Ok.ensures.read text known) c.checked_plan.ensures

pub returns-in-Ok-clause-learned : goal.returns-in-Ok-clause-learned
returns-in-Ok-clause-learned g c text known = on_ok_known c.checked_plan.result (c.in-Ok.ensures.read text known)
