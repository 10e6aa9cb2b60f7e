use Rattle.std.proofs.Common.{ap, ◌∙◌}
use Rattle.fq_run.specs.Physical.{main_fields}
use Rattle.fq_run.proofs.physical_plans.PhysicalPlan.leading.Goals as goal

pub returns-clause-columns : goal.returns-clause-columns
returns-clause-columns c = c.self.invariant.0.on_main ∙ ap main_fields c.self.view_is
