use Rattle.std.proofs.Common.{◌-◌, length, map, subst, sym}
use Rattle.std.specs.Prelude.{All}
use Rattle.fq_ops.specs.declared.groups.TheConstants.{MAX_GROUPED_ROWS}
use Rattle.fq_ops.specs.Running.{IsBoundedBy}
use Rattle.fq_ops.proofs.AccumulatorLemmas.{padded-bounded, taken-padded}
use Rattle.fq_ops.proofs.accumulators.take.Goals as goal

pub step_all-requires-clause-bounded : goal.step_all-requires-clause-bounded
step_all-requires-clause-bounded g c =
    let most = MAX_GROUPED_ROWS - length c.args.numbers.now in
    subst (All (IsBoundedBy most)) (sym c.in_ok-grow.ensures.grown) (padded-bounded most c.args.groups g.S.State.function (map g.S.State.running c.args.states.now.items) c.requires.bounded)

pub returns-clause-bounded : goal.returns-clause-bounded
returns-clause-bounded g c = taken-padded c.step_all.result (length c.args.numbers.now) c.args.groups g.S.State.function _ _ _ c.in_ok-grow.ensures.grown c.step_all.ensures.bounded
