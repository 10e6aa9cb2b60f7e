use Rattle.std.specs.Prelude.{IfNone, IfSome, MatchOption}
use Rattle.std.specs.List.{slice_get}
use Rattle.std.proofs.Common.{rules, arith, deque_len, ◌≡◌, ◌≤◌, ◌<◌, ◌+◌, ℕ, List, All, Option, Some, None, inl, inr, length, refl, sym, subst, ap, ◌∙◌}
use Rattle.std.proofs.lemmas.Bool.{cases_lt}
use Rattle.std.proofs.lemmas.Option.{same_Some, slice_get_within}
use Rattle.fq_lanes.specs.declared.worker_lanes.WorkerLanes.{WorkerLanes}
use Rattle.fq_lanes.proofs.BesideLemmas.{all_by_place, get_or_place}
use Rattle.fq_lanes.proofs.turns.free_worker.Goals as goal
use Rattle.fq_lanes.proofs.turns.free_worker.Goals.{then-outstanding-fewest, else-outstanding-fewest}

module _ {X O : Type 0} where
  abbrev jobs : WorkerLanes X O → ℕ
  jobs d = length d.outstanding.items

  -- the first of the workers with the fewest jobs, if these are fewer than the most
  abbrev Found : List (WorkerLanes X O) → ℕ → Option ℕ → Type 0
  Found ds fewest free = MatchOption free (fewest ≡ 4) (λ w. (d : WorkerLanes X O) × (slice_get ds w ≡ Some d) × (jobs d ≡ fewest)
      × (fewest < 4) × ((j : ℕ) (e : WorkerLanes X O) → j < w → slice_get ds j ≡ Some e → fewest < jobs e))

  least-next : (ds : List (WorkerLanes X O)) (w fewest next : ℕ) (d : WorkerLanes X O) → slice_get ds w ≡ Some d → next ≤ fewest → next ≤ jobs d
      → ((j : ℕ) (e : WorkerLanes X O) → j < w → slice_get ds j ≡ Some e → fewest ≤ jobs e) → (j : ℕ) (e : WorkerLanes X O) → j < w + 1 → slice_get ds j ≡ Some e → next ≤ jobs e
  least-next ds w fewest next d at down its least j e below there =
      elim (cases_lt j w) [
        | inl lt ↦ omega (arith, down, least j e lt there)
        | inr le ↦
            let same : j ≡ w = omega (arith, below, le) in
            let is : d ≡ e = same_Some d e (sym at ∙ ap (slice_get ds) (sym same) ∙ there) in
            omega (arith, its, ap jobs is)
      ]

  is-free : (ds : List (WorkerLanes X O)) (fewest : ℕ) (free : Option ℕ) → ((j : ℕ) (e : WorkerLanes X O) → slice_get ds j ≡ Some e → fewest ≤ jobs e) → Found ds fewest free
      → IfSome free (λ w. (d : WorkerLanes X O) × (slice_get ds w ≡ Some d) × (jobs d < 4) × All (λ e. jobs d ≤ jobs e) ds
      × ((j : ℕ) (e : WorkerLanes X O) → j < w → slice_get ds j ≡ Some e → jobs d < jobs e))
  is-free ds fewest None least found = tt
  is-free ds fewest (Some w) least found = (
    found.0,
    found.1,
    omega (arith, found.2, found.3),
    all_by_place (λ e. jobs found.0 ≤ jobs e) ds (λ j e there. omega (arith, found.2, least j e there)),
    λ j e below there. omega (arith, found.2, found.4 j e below there),
  )

  are-full : (ds : List (WorkerLanes X O)) (fewest : ℕ) (free : Option ℕ) → ((j : ℕ) (e : WorkerLanes X O) → slice_get ds j ≡ Some e → fewest ≤ jobs e) → Found ds fewest free
      → IfNone free (All (λ e. 4 ≤ jobs e) ds)
  are-full ds fewest None least found = all_by_place (λ e. 4 ≤ jobs e) ds (λ j e there. omega (arith, found, least j e there))
  are-full ds fewest (Some w) least found = tt

pub loop-worker-preserved : goal.loop-worker-preserved
loop-worker-preserved g c =
    let ds = c.args.workers.now.items in
    let w = c.loop-worker.worker in
    let d = c.index.result.now in
    let at : slice_get ds w ≡ Some d = get_or_place ds w d (search rules) c.index.ensures in
    let counted : deque_len d.outstanding ≡ jobs d = search rules in
    let its : c.len-outstanding.result ≡ jobs d = c.len-outstanding.ensures ∙ counted in
    let next = c.if-outstanding-fewest.fewest in
    let down : next ≤ c.loop-worker.fewest = elim c.if-outstanding-fewest.branch [ then-outstanding-fewest t ↦ omega (arith, t.if-outstanding-fewest.true, t.fewest-is) | else-outstanding-fewest t ↦ omega (arith, t.fewest-is) ] in
    let own : next ≤ jobs d = elim c.if-outstanding-fewest.branch [ then-outstanding-fewest t ↦ omega (arith, its, t.fewest-is) | else-outstanding-fewest t ↦ omega (arith, its, t.if-outstanding-fewest.false, t.fewest-is) ] in
    record {
      few = omega (arith, down, c.loop-worker.invariant.few);
      least = least-next ds w c.loop-worker.fewest next d at down own c.loop-worker.invariant.least;
      free = elim c.if-outstanding-fewest.branch [
        | then-outstanding-fewest t ↦ subst (λ o. Found ds next o) (sym t.free-is) (
          d,
          at,
          omega (arith, its, t.fewest-is),
          omega (arith, c.loop-worker.invariant.few, t.if-outstanding-fewest.true, t.fewest-is),
          λ j e below there. omega (arith, c.loop-worker.invariant.least j e below there, t.if-outstanding-fewest.true, t.fewest-is),
        )
        | else-outstanding-fewest t ↦ rw (t.free-is, t.fewest-is) c.loop-worker.invariant.free
      ];
    }

-- each place is one that was looked at
everywhere : {X O : Type 0} (ds : List (WorkerLanes X O)) (w end fewest : ℕ) → end ≡ length ds → end ≤ w → ((j : ℕ) (e : WorkerLanes X O) → j < w → slice_get ds j ≡ Some e → fewest ≤ jobs e)
    → (j : ℕ) (e : WorkerLanes X O) → slice_get ds j ≡ Some e → fewest ≤ jobs e
everywhere ds w end fewest size past least j e there = least j e (omega (arith, size, past, slice_get_within ds j e there)) there

pub returns-clause-free : goal.returns-clause-free
returns-clause-free g c =
    is-free c.args.workers.now.items c.loop-worker.fewest c.loop-worker.free
    (everywhere c.args.workers.now.items c.loop-worker.worker (length c.args.workers.now.items) c.loop-worker.fewest refl (omega (arith, c.len-worker-end.ensures, c.loop-worker-test.false)) c.loop-worker.invariant.least)
    c.loop-worker.invariant.free

pub returns-clause-full : goal.returns-clause-full
returns-clause-full g c =
    are-full c.args.workers.now.items c.loop-worker.fewest c.loop-worker.free
    (everywhere c.args.workers.now.items c.loop-worker.worker (length c.args.workers.now.items) c.loop-worker.fewest refl (omega (arith, c.len-worker-end.ensures, c.loop-worker-test.false)) c.loop-worker.invariant.least)
    c.loop-worker.invariant.free
