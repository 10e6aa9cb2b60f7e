use Rattle.std.proofs.Common.{refl}
use Rattle.fq_language.proofs.OnLiterals.{plans_on_literals}
use Rattle.fq_shell.proofs.OnLiterals.{arguments_on_literals}
use Rattle.fq_program.specs.Named.{early_failure, names_refusal, noted_plan, outcome_of, plan_in, planned}
use Rattle.fq_examples.proofs.program.worked_runs.Goals as goal

pub returns : goal.returns
unfolding plans_on_literals arguments_on_literals names_refusal noted_plan plan_in planned early_failure outcome_of
returns c = record { named = (refl, refl, refl, refl, refl, refl); notations = (refl, refl, refl, refl, refl, refl, refl) }
