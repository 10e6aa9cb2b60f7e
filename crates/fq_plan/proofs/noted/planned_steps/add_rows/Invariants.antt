use Rattle.std.proofs.Common.{◌≡◌, ◌++◌, map, take}
use Rattle.fq_expr.specs.ExpressionData.{step_of}
use Rattle.fq_language.specs.Plan.{row_wise}
use Rattle.fq_plan.specs.PlannedSteps.{planned_step}
use Rattle.fq_plan.proofs.noted.planned_steps.add_rows.Given as goal

abbrev pub invariant-loop-step : goal.invariant-loop-step
invariant-loop-step l = map planned_step l.steps.items ≡ map planned_step l.initial.steps.items ++ map row_wise (map step_of (take l.step-index l.rows))
