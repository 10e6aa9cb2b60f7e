use Rattle.std.proofs.Common.{◌≡◌, ◌∙◌, ap, sym, length, subst, ◌≤◌}
use Rattle.fq_column.specs.Batch.{height_of, frame_with}
use Rattle.fq_column.specs.Frame.{Fields, Frame, put_named}
use Rattle.fq_column.proofs.BatchLemmas.{length-rows_of, of_height}
use Rattle.fq_column.proofs.PutColumnLemmas.{StandsIn-put, frame-put}
use Rattle.fq_column.proofs.batches.Batch.put.Goals.{In_ok-put_column}
use Rattle.fq_column.proofs.batches.Batch.put.Goals as goal

-- the column is as high as the batch
tall : (c : In_ok-put_column) → length c.args.column.cells ≡ height_of c.self.inside.columns.items
tall c = c.requires.height ∙ ap (λ (f : Frame). length f.rows) (sym c.self.view_is) ∙ length-rows_of (height_of c.self.inside.columns.items) c.self.inside.columns.items (of_height c.self.inside.schema c.self.inside.columns.items c.self.invariant)

fields : (c : In_ok-put_column) → c.args.self.now.fields ≡ c.self.inside.schema
fields c = ap (λ (f : Frame). f.fields) (sym c.self.view_is)

room : (c : In_ok-put_column) → length (put_named c.self.inside.schema (c.args.name.now, c.args.column.kind)) ≤ 64
room c = let P : Fields → Type 0 = λ f. length (put_named f (c.args.name.now, c.args.column.kind)) ≤ 64 in subst P (fields c) c.requires.room

pub invariant_of-self-2 : goal.invariant_of-self-2
invariant_of-self-2 c = let d = (goal.at.invariant_of-self-2 c).In_ok-put_column in
    StandsIn-put c.self.inside.schema c.self.inside.columns.items c.args.name.now c.args.column c.self.invariant (tall d) c.in_ok-put_column.ensures.kind (room d)
    c.put_column.new.schema c.put_column.new.columns.items c.in_ok-put_column.ensures.schema c.in_ok-put_column.ensures.width c.in_ok-put_column.ensures.columns

pub returns-clause-ok : goal.returns-clause-ok
returns-clause-ok c = let d = (goal.at.returns-clause-ok c).In_ok-put_column in
    frame-put c.self.inside.schema c.self.inside.columns.items c.args.name.now c.args.column c.self.invariant (tall d) c.in_ok-put_column.ensures.kind (room d)
    c.put_column.new.schema c.put_column.new.columns.items c.in_ok-put_column.ensures.schema c.in_ok-put_column.ensures.width c.in_ok-put_column.ensures.columns
    ∙ ap (λ (f : Frame). frame_with f c.args.name.now c.args.column) c.self.view_is
