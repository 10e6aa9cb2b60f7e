use Rattle.std.proofs.Common.{refl}
use Rattle.fq_examples.proofs.expressions.worked_examples.Goals as goal

pub returns-clause-logic : goal.returns-clause-logic
returns-clause-logic c = refl

pub returns-clause-logic_kinds : goal.returns-clause-logic_kinds
returns-clause-logic_kinds c = refl

pub returns-clause-earliest : goal.returns-clause-earliest
returns-clause-earliest c = refl

pub returns-clause-earliest_first : goal.returns-clause-earliest_first
returns-clause-earliest_first c = refl

pub returns-clause-earliest_by_batches : goal.returns-clause-earliest_by_batches
returns-clause-earliest_by_batches c = refl

pub returns-clause-numbered : goal.returns-clause-numbered
returns-clause-numbered c = refl

pub returns-clause-division : goal.returns-clause-division
returns-clause-division c = refl

pub returns-clause-division_fault : goal.returns-clause-division_fault
returns-clause-division_fault c = refl

pub returns-clause-remainder : goal.returns-clause-remainder
returns-clause-remainder c = refl

pub returns-clause-kinds : goal.returns-clause-kinds
returns-clause-kinds c = (refl, refl, refl)

pub returns-clause-values : goal.returns-clause-values
returns-clause-values c = (refl, refl, refl)

pub returns-clause-schemas : goal.returns-clause-schemas
returns-clause-schemas c = (refl, refl, refl, refl)

pub returns-clause-filtered : goal.returns-clause-filtered
returns-clause-filtered c = (refl, refl)

pub returns-clause-replaced : goal.returns-clause-replaced
returns-clause-replaced c = (refl, refl, refl)
