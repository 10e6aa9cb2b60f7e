use Rattle.std.proofs.Common.{ap, sym, ◌∙◌, arith}
use Rattle.fq_column.specs.Lists.{numbers}
use Rattle.fq_ops.specs.Accumulated.{first_found, out_of_range_in}
use Rattle.fq_ops.proofs.FinishLemmas.{found-append, found-at}
use Rattle.fq_ops.proofs.RollLemmas.{numbers-more}
use Rattle.fq_ops.proofs.groups.first_unfit.Goals as goal

pub returns-in-Some-clause-found : goal.returns-in-Some-clause-found
returns-in-Some-clause-found c =
    let f = out_of_range_in c.args.accumulators.now in
    let g = c.loop-group.group in
    sym (found-at f 0 c.args.groups g c.in-Some.item (omega arith) c.loop-group.invariant (ap f (omega arith) ∙ sym c.in-Some.ensures.found))

pub loop-group-preserved : goal.loop-group-preserved
loop-group-preserved c =
    let f = out_of_range_in c.args.accumulators.now in
    ap (first_found f) (numbers-more c.loop-group.group) ∙ found-append f (numbers c.loop-group.group) c.loop-group.group c.loop-group.invariant (sym c.in_default.ensures.found)
