use Rattle.std.proofs.Common.{◌<◌, ◌++◌, ◌∷◌, [], length, map, subst, ap, sym, ◌∙◌, arith}
use Rattle.std.proofs.lemmas.List.{get_or-map, length-map}
use Rattle.fq_ops.specs.declared.groups.TheConstants.{MAX_GROUPED_ROWS}
use Rattle.fq_ops.specs.Accumulated.{running_pick}
use Rattle.fq_ops.specs.Running.{Len, IsBoundedBy, of_kind, outcome}
use Rattle.fq_ops.proofs.FinishLemmas.{column-more}
use Rattle.fq_ops.proofs.accumulators.gather.Goals as goal

pub push_to-requires : goal.push_to-requires
push_to-requires g c =
    let run = g.S.State.running in
    let states = c.args.states.now.items in
    let state = c.index.result.now in
    let low : c.loop-group.group < length states = omega (arith, c.len-group-end.ensures) in
    subst (IsBoundedBy (MAX_GROUPED_ROWS)) (get_or-map run states c.loop-group.group state (run state) low ∙ sym (ap run c.index.ensures))
    (c.requires c.loop-group.group (run state) (omega (arith, low, length-map states run)))

pub loop-group-preserved : goal.loop-group-preserved
loop-group-preserved g c =
    let run = g.S.State.running in
    let states = c.args.states.now.items in
    let k = c.loop-group.group in
    let state = c.index.result.now in
    let low : k < length states = omega (arith, c.len-group-end.ensures) in
    let was = ap run c.index.ensures ∙ sym (get_or-map run states k state (Len 0) low) in
    let so_far = c.loop-group.invariant in
    c.in_ok-push_to.ensures
    ∙ (λ i. record { kind = (so_far i).kind; cells = (so_far i).cells ++ of_kind (so_far i).kind (outcome (was i)) ∷ [] })
    ∙ sym (column-more (running_pick c.args.kind (map run states)) k)
