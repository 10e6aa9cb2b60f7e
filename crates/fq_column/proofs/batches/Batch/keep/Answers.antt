use Rattle.std.proofs.Common.{◌≡◌, ◌++◌, ◌∙◌, ap, sym, length, get_or, map, take, drop, arith, slice_index_or, set, suc, ◌+◌}
use Rattle.fq_column.specs.Batch.{height_of}
use Rattle.fq_column.specs.Column.{Cells}
use Rattle.fq_column.specs.Frame.{Frame}
use Rattle.fq_column.specs.Lists.{keep}
use Rattle.fq_column.proofs.BatchLemmas.{changed, set-map-step, all-changed, rows-keep, StandsIn-keep, some-column, of_height, length-rows_of, length-at, unchanged-at}
use Rattle.fq_column.proofs.batches.Batch.keep.Goals as goal

pub invariant_of-self : goal.invariant_of-self
invariant_of-self c =
    rw (c.loop-i.invariant.0, c.loop-i.invariant.1 ∙ all-changed (changed (keep c.args.mask.now)) c.self.inside.columns.items c.loop-i.i (grind (arith)))
    (StandsIn-keep c.self.inside.schema c.args.mask.now c.self.inside.columns.items (c.requires ∙ ap (λ (f : Frame). length f.rows) (sym c.self.view_is) ∙ length-rows_of (height_of c.self.inside.columns.items) c.self.inside.columns.items (of_height c.self.inside.schema c.self.inside.columns.items c.self.invariant)) c.self.invariant)

pub keep-requires : goal.keep-requires
keep-requires c =
    let xs = c.self.inside.columns.items in let it = c.index_mut.result.now in let i = c.loop-i.i in
    c.requires ∙ ap (λ (f : Frame). length f.rows) (sym c.self.view_is)
    ∙ length-rows_of (height_of xs) xs (of_height c.self.inside.schema xs c.self.invariant)
    ∙ sym (ap (λ (x : Cells). length x.cells) (c.index_mut.ensures.value ∙ ap (λ ys. get_or ys i it) c.loop-i.invariant.1 ∙ unchanged-at (changed (keep c.args.mask.now)) xs i it (grind arith))
    ∙ length-at (height_of xs) xs i it (of_height c.self.inside.schema xs c.self.invariant) (grind arith))

pub loop-i-preserved : goal.loop-i-preserved
loop-i-preserved c =
    let f = changed (keep c.args.mask.now) in let xs = c.self.inside.columns.items in let i = c.loop-i.i in let it = c.index_mut.result.now in (
      c.loop-i.invariant.0,
      ap (set c.loop-i.self-inside.columns.items i) (c.keep.ensures ∙ ap f c.index_mut.ensures.value)
          ∙ ap (λ ys. set ys i (f (slice_index_or ys i it))) c.loop-i.invariant.1
          ∙ set-map-step f xs i it (grind arith)
          ∙ ap (λ j. map f (take j xs) ++ drop j xs) (let e : suc i ≡ i + 1 = omega arith in e),
    )

pub returns : goal.returns
returns c =
    rw (← c.self.view_is, c.loop-i.invariant.0, c.loop-i.invariant.1 ∙ all-changed (changed (keep c.args.mask.now)) c.self.inside.columns.items c.loop-i.i (grind (arith)))
    (ap (λ rows. let f : Frame = record { fields = c.self.inside.schema; rows = rows } in f) (rows-keep c.self.inside.schema c.args.mask.now c.self.inside.columns.items (c.requires ∙ ap (λ (f : Frame). length f.rows) (sym c.self.view_is) ∙ length-rows_of (height_of c.self.inside.columns.items) c.self.inside.columns.items (of_height c.self.inside.schema c.self.inside.columns.items c.self.invariant)) (some-column c.self.inside.schema c.self.inside.columns.items c.self.invariant) c.self.invariant))
