use Rattle.std.proofs.Common.{subst}
use Rattle.std.proofs.lemmas.Result.{IfOk-weaker}
use Rattle.fq_run.specs.RunningOperators.{IsGiving}
use Rattle.fq_run.specs.declared.operators.RunningOperator.{RunningOperator}
use Rattle.fq_run.proofs.operators.RunningOperator.go_on.Goals as goal

pub returns : goal.returns
returns c =
    IfOk-weaker c.go_on.result _ _ (λ p made m rows batch given g.
    made m rows batch given (subst (λ (r : RunningOperator). IsGiving r m rows batch given c.args.probe) c.in-Join.is g)) c.go_on.ensures
