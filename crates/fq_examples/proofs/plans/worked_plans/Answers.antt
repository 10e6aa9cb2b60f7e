use Rattle.std.proofs.Common.{refl}
use Rattle.fq_language.proofs.OnLiterals.{plans_on_literals}
use Rattle.fq_examples.proofs.plans.worked_plans.Goals as goal

pub returns-clause-filtered : goal.returns-clause-filtered
unfolding plans_on_literals
returns-clause-filtered c = refl

pub returns-clause-empty : goal.returns-clause-empty
unfolding plans_on_literals
returns-clause-empty c = (refl, refl, refl)

pub returns-clause-files : goal.returns-clause-files
unfolding plans_on_literals
returns-clause-files c = refl

pub returns-clause-logic : goal.returns-clause-logic
unfolding plans_on_literals
returns-clause-logic c = refl

pub returns-clause-earliest : goal.returns-clause-earliest
unfolding plans_on_literals
returns-clause-earliest c = (refl, refl)

pub returns-clause-sums : goal.returns-clause-sums
unfolding plans_on_literals
returns-clause-sums c = (refl, refl, refl, refl)

pub returns-clause-groups : goal.returns-clause-groups
unfolding plans_on_literals
returns-clause-groups c = (refl, refl)

pub returns-clause-aggregates : goal.returns-clause-aggregates
unfolding plans_on_literals
returns-clause-aggregates c = refl

pub returns-clause-joins : goal.returns-clause-joins
unfolding plans_on_literals
returns-clause-joins c = (refl, refl)

pub returns-clause-new_joins : goal.returns-clause-new_joins
unfolding plans_on_literals
returns-clause-new_joins c = (refl, refl, refl, refl, refl, refl, refl, refl, refl, refl, refl)

pub returns-clause-suffix : goal.returns-clause-suffix
unfolding plans_on_literals
returns-clause-suffix c = (refl, refl)

pub returns-clause-rolling : goal.returns-clause-rolling
unfolding plans_on_literals
returns-clause-rolling c = (refl, refl, refl)

pub returns-clause-numbers : goal.returns-clause-numbers
unfolding plans_on_literals
returns-clause-numbers c = (refl, refl)

pub returns-clause-bad_rows : goal.returns-clause-bad_rows
unfolding plans_on_literals
returns-clause-bad_rows c = (refl, refl)

pub returns-clause-texts : goal.returns-clause-texts
unfolding plans_on_literals
returns-clause-texts c = refl

pub returns-clause-truth : goal.returns-clause-truth
unfolding plans_on_literals
returns-clause-truth c = refl

pub returns-clause-division : goal.returns-clause-division
unfolding plans_on_literals
returns-clause-division c = (refl, refl, refl)

pub returns-clause-order : goal.returns-clause-order
unfolding plans_on_literals
returns-clause-order c = (refl, refl)

pub returns-clause-unused : goal.returns-clause-unused
unfolding plans_on_literals
returns-clause-unused c = refl

pub returns-clause-null_texts : goal.returns-clause-null_texts
unfolding plans_on_literals
returns-clause-null_texts c = (refl, refl, refl, refl, refl, refl, refl)
