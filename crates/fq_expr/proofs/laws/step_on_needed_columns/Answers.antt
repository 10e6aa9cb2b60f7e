use Rattle.fq_expr.proofs.NeededLemmas.{apply_step-agree}
use Rattle.fq_expr.proofs.laws.step_on_needed_columns.Goals as goal

pub returns : goal.returns
returns g c overflow n fields after step needed u v distinct judged agree = apply_step-agree overflow n fields after step needed distinct judged u v agree
