use Rattle.std.proofs.Common.{◌≡◌, ◌+◌, ◌-◌, ◌<◌, get_or, set, length, map, subst, sym, ap, ◌∙◌, arith}
use Rattle.std.specs.Prelude.{All}
use Rattle.std.proofs.lemmas.List.{get_or-map, length-map, length-set, map-set}
use Rattle.std.proofs.lemmas.List.Elements.{All-set}
use Rattle.fq_column.specs.declared.cells.Cell.TheVariants.{Null}
use Rattle.fq_ops.specs.declared.groups.TheConstants.{MAX_GROUPED_ROWS}
use Rattle.fq_ops.specs.Running.{Len, IsBoundedBy, stepped}
use Rattle.fq_ops.proofs.AccumulatorLemmas.{all-more, stepped-more}
use Rattle.fq_ops.proofs.RunningLemmas.{IsBoundedBy-more}
use Rattle.fq_ops.proofs.accumulators.step_all.Goals as goal

pub step-requires-clause-few : goal.step-requires-clause-few
step-requires-clause-few g c =
    let run = g.S.State.running in
    let states = c.loop-row.states.items in
    let xs = map run states in
    let n = get_or c.args.numbers.now c.loop-row.row 0 in
    let state = c.index_mut-state.result.now in
    let low : n < length states = omega (arith, c.requires.within c.loop-row.row 0 (omega arith), c.loop-row.invariant.size) in
    let was : run state ≡ get_or xs n (run state) = ap run c.index_mut-state.ensures.value ∙ sym (get_or-map run states n state (run state) low) in
    let all = c.loop-row.invariant.bounded (MAX_GROUPED_ROWS - length c.args.numbers.now) c.requires.bounded in
    subst (IsBoundedBy (MAX_GROUPED_ROWS)) (sym was)
    (IsBoundedBy-more (MAX_GROUPED_ROWS - length c.args.numbers.now + c.loop-row.row) (MAX_GROUPED_ROWS) (omega (arith, c.requires.few)) (get_or xs n (run state)) (all n (run state) (omega (arith, low, length-map states run))))

pub loop-row-preserved : goal.loop-row-preserved
loop-row-preserved g c =
    let run = g.S.State.running in
    let states = c.loop-row.states.items in
    let old = map run c.args.states.now.items in
    let xs = map run states in
    let numbers = c.args.numbers.now in
    let cells = c.args.column.now.cells in
    let row = c.loop-row.row in
    let n = get_or numbers row 0 in
    let state = c.index_mut-state.result.now in
    let next = c.step.new.self in
    let low : n < length states = omega (arith, c.requires.within row 0 (omega arith), c.loop-row.invariant.size) in
    let was : run state ≡ get_or xs n (Len 0) = ap run c.index_mut-state.ensures.value ∙ sym (get_or-map run states n state (Len 0) low) in
    record {
      items = map-set run states n next
          ∙ ap (set xs n) (c.in_ok-step.ensures.stepped ∙ ap (λ r. stepped r (get_or cells row Null)) was)
          ∙ ap (λ l. set l n (stepped (get_or l n (Len 0)) (get_or cells row Null))) c.loop-row.invariant.items
          ∙ sym (stepped-more old numbers cells row 0 Null (omega arith) c.requires.beside);
      size = length-set states n next ∙ c.loop-row.invariant.size;
      bounded = λ k h.
          let all = c.loop-row.invariant.bounded k h in
          let here = subst (IsBoundedBy (k + row)) (sym was) (all n (Len 0) (omega (arith, low, length-map states run))) in
          let then : IsBoundedBy (k + (row + 1)) (run next) = subst (λ m. IsBoundedBy m (run next)) (omega arith) (c.in_ok-step.ensures.bounded (k + row) here) in
          subst (All (IsBoundedBy (k + (row + 1)))) (sym (map-set run states n next))
          (All-set (IsBoundedBy (k + (row + 1))) xs n (run next) then (all-more (k + row) (k + (row + 1)) (omega arith) xs all));
    }

pub returns-clause-bounded : goal.returns-clause-bounded
returns-clause-bounded g c = record { bounded = λ n h. subst (λ m. All (IsBoundedBy (n + m)) (map g.S.State.running c.loop-row.states.items)) (omega arith) (c.loop-row.invariant.bounded n h) }
