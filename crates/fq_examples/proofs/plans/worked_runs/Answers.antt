use Rattle.std.proofs.Common.{refl}
use Rattle.fq_language.proofs.OnLiterals.{plans_on_literals}
use Rattle.fq_examples.proofs.plans.worked_runs.Goals as goal

pub returns-clause-starts : goal.returns-clause-starts
returns-clause-starts c = (refl, refl, refl, refl, refl)

pub returns-clause-items : goal.returns-clause-items
unfolding plans_on_literals
returns-clause-items c = (refl, refl, refl, refl)

pub returns-clause-traces : goal.returns-clause-traces
unfolding plans_on_literals
returns-clause-traces c = (refl, refl, refl)
