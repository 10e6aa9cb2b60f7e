use Rattle.std.proofs.Common.{sym, ap, ◌∙◌}
use Rattle.std.specs.Prelude.{is_some}
use Rattle.fq_ops.specs.Accumulated.{Accumulated, value_in}
use Rattle.fq_ops.proofs.RunningLemmas.{others-fit}
use Rattle.fq_ops.proofs.accumulators.Accumulator.fits.Goals as goal

pub returns-in_default : goal.returns-in_default
returns-in_default c =
    sym (others-fit c.self.inside.states c.args.group c.in_default.not-Sum)
    ∙ ap (λ (a : Accumulated). is_some (value_in c.args.group a)) c.self.view_is
