use Rattle.fq_expr.specs.Front.{fault_at}
use Rattle.fq_run.specs.Sources.{row_fault}
use Rattle.fq_run.proofs.LeadingStepLemmas.{rename_fault-apply_steps}
use Rattle.fq_plan.proofs.laws.renamed_steps.Goals as goal

pub returns : goal.returns
returns c n fields steps u = rename_fault-apply_steps fault_at row_fault n fields steps u
