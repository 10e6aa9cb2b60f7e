use Rattle.std.proofs.Common.{◌≡◌, ◌++◌, map, length}
use Rattle.fq_language.specs.View.{plan_step_of}
use Rattle.fq_plan.specs.Stages.{columns_after, columns_of, stage_steps, stages_of, Leads}
use Rattle.fq_plan.proofs.checks.steps.check_steps.Given as goal

abbrev pub invariant-loop-step : goal.invariant-loop-step
invariant-loop-step l = record {
  left : l.fn.steps.items ≡ l.yielded ++ l.step-iterator.rest.items;
  number : l.number ≡ length l.yielded;
  steps : stage_steps (stages_of l.passed) ≡ map plan_step_of l.yielded;
  leads : Leads (columns_of l.sides) 0 l.main (stages_of l.passed) (columns_after l.passed);
}
