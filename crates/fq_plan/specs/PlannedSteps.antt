-- The steps of a checked plan one after another, as the code goes through them.
use Rattle.std.specs.Prelude.{List, Option, map, zip, Result}
use Rattle.fq_column.specs.Frame.{Field, Fields, Name}
use Rattle.fq_expr.specs.ExpressionData.{step_of}
use Rattle.fq_language.specs.Plan.{PlanStep, row_wise, side_fields}
use Rattle.fq_notation.specs.Notation.{Named}
use Rattle.fq_notation.specs.declared.naming.Said.{Said}
use Rattle.fq_notation.specs.declared.naming.StepUnnoted.{StepUnnoted}
use Rattle.fq_notation.specs.declared.notations.Notation.{Notation}
use Rattle.fq_plan.specs.Followed.{said_by, said_of, said_of_right, step_followed}
use Rattle.fq_plan.specs.Stages.{group_step, join_step, rolling_step}
use Rattle.fq_plan.specs.declared.noted.following.Names.{Names}
use Rattle.fq_plan.specs.declared.noted.planned_steps.PlannedStep.{PlannedStep}
use Rattle.fq_plan.specs.declared.noted.planned_steps.PlannedStep.TheVariants as planned

abbrev pub planned_step : PlannedStep → PlanStep
planned_step (planned.Row s) = row_wise (step_of s.now)
planned_step (planned.Join j) = join_step j.now
planned_step (planned.GroupBy g) = group_step g.now
planned_step (planned.RollingSum r) = rolling_step r.now

-- the steps that are left, each with the columns that it leaves
abbrev pub left_in : Names → List (PlanStep × Fields)
left_in names = zip (map planned_step names.later.now) names.after.now

-- what names say, and the notations after a step, by what the code keeps of a plan
abbrev pub said_by_in : Names → Name → Option Notation → Said
said_by_in names name given = said_by names.plan.now.sources names.declared.now (left_in names) name given

abbrev pub said_in : Names → Name → Said
said_in names name = said_of names.plan.now.sources names.declared.now (left_in names) name

abbrev pub right_said_in : Names → Fields → Field → Said
right_said_in names left field = said_of_right names.plan.now.sources names.declared.now (left_in names) left field

abbrev pub followed_in : Names → Fields → List Named → PlanStep → Result (List Named) StepUnnoted
followed_in names fields named s = step_followed names.plan.now.sources names.declared.now (left_in names) (side_fields names.plan.now) fields named s
