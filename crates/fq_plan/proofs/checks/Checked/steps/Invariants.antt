use Rattle.std.proofs.Common.{◌≡◌, ◌++◌, drop, map}
use Rattle.fq_plan.specs.PlannedSteps.{planned_step}
use Rattle.fq_plan.specs.Stages.{stage_steps}
use Rattle.fq_plan.proofs.checks.Checked.steps.Given as goal

-- the steps so far, and those of the stages that are left
abbrev pub invariant-loop-stage : goal.invariant-loop-stage
invariant-loop-stage l = map planned_step l.steps.items ++ stage_steps (drop l.stage-index l.stages) ≡ l.self.steps
