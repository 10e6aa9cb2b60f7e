use Rattle.std.proofs.Common.{◌≡◌, ◌++◌, ◌∙◌, ◌+◌, ap, arith, drop, map, set, suc, slice_index_or, take}
use Rattle.fq_column.proofs.BatchLemmas.{changed, set-map-step}
use Rattle.fq_column.proofs.batches.cut_columns.Goals as goal

pub loop-i-preserved : goal.loop-i-preserved
loop-i-preserved c =
    let f = changed (take c.args.n) in
    let xs = c.args.columns.now in
    let i = c.loop-i.i in
    let it = c.index-columns-i.result in
    ap (set c.loop-i.columns i) c.cut.ensures
    ∙ ap (λ ys. set ys i (f (slice_index_or ys i it))) c.loop-i.invariant
    ∙ set-map-step f xs i it (omega arith)
    ∙ ap (λ j. map f (take j xs) ++ drop j xs) (let e : suc i ≡ i + 1 = omega arith in e)
