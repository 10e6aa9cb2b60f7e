use Rattle.std.proofs.Common.{◌∙◌, ap, length, arith}
use Rattle.std.proofs.lemmas.List.{length-map}
use Rattle.fq_column.specs.Batch.{height_of, kind_of_cells}
use Rattle.fq_column.specs.Frame.{Field, Frame, column_at}
use Rattle.fq_column.proofs.BatchLemmas.{of_height, column_at-rows_of, cells}
use Rattle.fq_column.proofs.batches.Batch.column.Goals as goal

pub returns-clause-cells : goal.returns-clause-cells
returns-clause-cells c = let cs = c.self.inside.columns.items in
    ap cells c.index.ensures
    ∙ column_at-rows_of (height_of cs) cs c.args.i c.index.result.now (of_height c.self.inside.schema cs c.self.invariant)
    (grind (arith, c.requires, ap (λ (f : Frame). length f.fields) c.self.view_is, ap length c.self.invariant.kinds, length-map cs kind_of_cells, length-map c.self.inside.schema (λ (f : Field). f.1)))
    ∙ ap (λ (f : Frame). column_at c.args.i f.rows) c.self.view_is
