use Rattle.std.proofs.Common.{◌∙◌, ap, sym, length}
use Rattle.fq_column.specs.Batch.{height_of}
use Rattle.fq_column.specs.Frame.{Frame}
use Rattle.fq_column.proofs.BatchLemmas.{of_height, length-rows_of, rows-fit}
use Rattle.fq_column.proofs.batches.Batch.rows.Goals as goal

pub returns-clause-rows : goal.returns-clause-rows
returns-clause-rows c = let cs = c.self.inside.columns.items in
    c.height_of_columns.ensures ∙ ap height_of c.as_slice.ensures.value
    ∙ sym (length-rows_of (height_of cs) cs (of_height c.self.inside.schema cs c.self.invariant))
    ∙ ap (λ (f : Frame). length f.rows) c.self.view_is

pub returns-clause-frame : goal.returns-clause-frame
returns-clause-frame c = let cs = c.self.inside.columns.items in
    rw (← c.self.view_is) (c.self.invariant.schema, rows-fit (height_of cs) c.self.inside.schema cs c.self.invariant.kinds c.self.invariant.cells)
