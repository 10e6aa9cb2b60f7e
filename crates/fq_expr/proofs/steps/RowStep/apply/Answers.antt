use Rattle.fq_expr.proofs.steps.RowStep.apply.Goals as goal

pub returns-in-Select-clause-fault : goal.returns-in-Select-clause-fault
returns-in-Select-clause-fault c = rw c.in-Select.is (rw c.as_slice-in-Select.ensures.value at c.project.ensures.fault)
