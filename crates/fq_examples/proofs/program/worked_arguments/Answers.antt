use Rattle.std.proofs.Common.{refl}
use Rattle.fq_shell.proofs.OnLiterals.{arguments_on_literals}
use Rattle.fq_examples.proofs.program.worked_arguments.Goals as goal

pub returns-clause-orders : goal.returns-clause-orders
unfolding arguments_on_literals
returns-clause-orders c = ((refl, refl), (refl, refl), (refl, refl))

pub returns-clause-hyphens : goal.returns-clause-hyphens
unfolding arguments_on_literals
returns-clause-hyphens c = ((refl, refl), (refl, refl))

pub returns-clause-outputs : goal.returns-clause-outputs
unfolding arguments_on_literals
returns-clause-outputs c = ((refl, refl), (refl, refl), (refl, refl), (refl, refl), (refl, refl), (refl, refl))

pub returns-clause-others : goal.returns-clause-others
unfolding arguments_on_literals
returns-clause-others c = (refl, refl, refl, refl, refl, refl, refl)

pub returns-clause-twice : goal.returns-clause-twice
unfolding arguments_on_literals
returns-clause-twice c = (refl, refl, refl)

pub returns-clause-notes : goal.returns-clause-notes
unfolding arguments_on_literals
returns-clause-notes c = (refl, refl, refl, refl, refl, refl)

pub returns-clause-checks : goal.returns-clause-checks
unfolding arguments_on_literals
returns-clause-checks c = (refl, refl, refl, refl, refl, refl, refl, refl)
