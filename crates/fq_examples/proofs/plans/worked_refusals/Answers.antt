use Rattle.std.proofs.Common.{refl}
use Rattle.fq_language.proofs.OnLiterals.{plans_on_literals}
use Rattle.fq_examples.proofs.plans.worked_refusals.Goals as goal

pub returns-clause-no_plan : goal.returns-clause-no_plan
unfolding plans_on_literals
returns-clause-no_plan c = (refl, refl, refl, refl, refl, refl, refl, refl, refl, refl)

pub returns-clause-double : goal.returns-clause-double
unfolding plans_on_literals
returns-clause-double c = (refl, refl)

pub returns-clause-refused : goal.returns-clause-refused
unfolding plans_on_literals
returns-clause-refused c = (refl, refl, refl, refl)
