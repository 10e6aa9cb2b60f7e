use Rattle.std.proofs.Common.{refl}
use Rattle.fq_language.proofs.OnLiterals.{plans_on_literals}
use Rattle.fq_examples.proofs.program.worked_inputs.Goals as goal

pub returns-clause-frames : goal.returns-clause-frames
unfolding plans_on_literals
returns-clause-frames c = (refl, refl)

pub returns-clause-failures : goal.returns-clause-failures
unfolding plans_on_literals
returns-clause-failures c = (refl, refl, refl, refl, refl, refl, refl)

pub returns-clause-statuses : goal.returns-clause-statuses
unfolding plans_on_literals
returns-clause-statuses c = (refl, refl, refl, refl)
