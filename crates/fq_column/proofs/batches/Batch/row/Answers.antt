use Rattle.std.proofs.Common.{◌≡◌, ◌<◌, ◌++◌, ◌∷◌, [], ◌∙◌, ap, sym, length, map, take, get_or, Some, arith}
use Rattle.std.specs.Prelude.{slice_get}
use Rattle.std.proofs.Math.Seq.{take_all}
use Rattle.fq_column.specs.Batch.{height_of}
use Rattle.fq_column.specs.Column.{Cells}
use Rattle.fq_column.specs.Frame.{Frame, value_at}
use Rattle.fq_column.proofs.BatchLemmas.{of_height, length-rows_of, length-at, row-at, value-at, map-take-step}
use Rattle.fq_column.proofs.batches.Batch.row.Goals as goal

pub cell-requires : goal.cell-requires
cell-requires c = let cs = c.self.inside.columns.items in let k = c.loop-column.column-index in let it = c.column-item.result in
    let tall = of_height c.self.inside.schema cs c.self.invariant in
    let low : c.args.i < height_of cs = grind (arith, c.requires, ap (λ (f : Frame). length f.rows) c.self.view_is, length-rows_of (height_of cs) cs tall) in
    let at : length it.cells ≡ height_of cs =
    ap (λ (x : Cells). length x.cells) (c.column-item.is ∙ ap (λ xs. get_or xs k it) c.deref-column-items.ensures.value)
    ∙ length-at (height_of cs) cs k it tall (grind (arith, c.loop-column-test.true, ap length c.deref-column-items.ensures.value)) in
    omega (arith, low, at)

pub loop-column-preserved : goal.loop-column-preserved
loop-column-preserved c = let at = λ (x : Cells). value_at c.args.i x.cells in let xs = c.deref-column-items.result.now in let k = c.loop-column.column-index in
    c.in_ok-push.ensures.items ∙ ap (λ row. row ++ c.in_ok-cell.field-0 ∷ []) c.loop-column.invariant
    ∙ ap (λ x. map at (take k xs) ++ x ∷ []) (sym (value-at c.column-item.result.cells c.args.i c.in_ok-cell.field-0 c.in_ok-cell.ensures))
    ∙ sym (map-take-step at xs k c.column-item.result c.loop-column-test.true c.column-item.is)

pub returns : goal.returns
returns c = let cs = c.self.inside.columns.items in let tall = of_height c.self.inside.schema cs c.self.invariant in
    let low : c.args.i < height_of cs = grind (arith, c.requires, ap (λ (f : Frame). length f.rows) c.self.view_is, length-rows_of (height_of cs) cs tall) in
    ap (λ (f : Frame). slice_get f.rows c.args.i) (sym c.self.view_is) ∙ row-at (height_of cs) cs c.args.i tall low
    ∙ ap Some (sym (c.loop-column.invariant ∙ ap (λ xs. map (λ (x : Cells). value_at c.args.i x.cells) xs) (take_all c.loop-column.column-index c.deref-column-items.result.now c.loop-column-test.false ∙ c.deref-column-items.ensures.value)))
