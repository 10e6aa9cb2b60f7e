use Rattle.fq_expr.proofs.StepLemmas.{apply_steps-then}
use Rattle.fq_expr.proofs.laws.steps_of_joined_streams.Goals as goal

pub returns : goal.returns
returns g c overflow n fields steps u v = apply_steps-then overflow n fields steps u v
