use Rattle.std.proofs.Common.{◌≡◌, ◌∙◌, ap, sym, Option, Some}
use Rattle.std.specs.Option.{option_map}
use Rattle.fq_expr.specs.declared.fronts.RowFault.{RowFault}
use Rattle.fq_run.specs.Sources.{row_fault}
use Rattle.fq_run.proofs.OperatorLemmas.{steps-next}
use Rattle.fq_run.proofs.operators.step.Goals.{Joined-fault, in-Some, in-None}
use Rattle.fq_run.proofs.operators.step.Goals as goal

fault-is : (c : Joined-fault) → c.match-fault.fault ≡ option_map row_fault c.in_ok-batch.field-0.fault
fault-is c = elim c.match-fault.branch [
  | in-Some w ↦ w.fault-is ∙ ap Some w.into.ensures ∙ sym (ap (λ (o : Option RowFault). option_map row_fault o) w.in-Some.is)
  | in-None w ↦ w.fault-is ∙ sym (ap (λ (o : Option RowFault). option_map row_fault o) w.in-None.is)
]

pub returns : goal.returns
returns c m rows same unended is = let made = c.in_ok-batch.field-0 in
    steps-next c.args.front.now m rows c.args.batch made.batch made.fault c.match-fault.fault is (fault-is (goal.at.returns c).Joined-fault) c.in_ok-batch.ensures.fields c.in_ok-batch.ensures.rows c.in_ok-batch.ensures.fault
