use Rattle.std.proofs.Common.{◌≡◌, ◌<◌, ◌∙◌, ap, sym, subst, arith, length, map, take}
use Rattle.std.specs.List.{zip}
use Rattle.std.specs.Result.{is_ok}
use Rattle.std.specs.Vec.Iter.{into_iter_items}
use Rattle.std.proofs.lemmas.List.{length-map}
use Rattle.fq_column.specs.Batch.{height_of, kind_of_cells, StandsIn}
use Rattle.fq_column.specs.Frame.{Field, Fields, Frame, names_of, put_all, rows_of}
use Rattle.fq_column.specs.Schema.{fields_of}
use Rattle.fq_expr.specs.Expression.{with_columns}
use Rattle.fq_expr.specs.Kinds.{item_names, step_schema}
use Rattle.fq_expr.specs.ExpressionData.{items_of}
use Rattle.fq_expr.specs.Outputs.{AreOutputs, all_kinds, cells_of_column}
use Rattle.fq_expr.proofs.ItemLemmas.{length-items_of, length-item_names}
use Rattle.fq_expr.proofs.JudgementLemmas.{ok-is, with_columns-ok, adds-room, adds-bound, fields_after-is}
use Rattle.fq_expr.specs.Steps.{with_values}
use Rattle.fq_expr.proofs.OutputLemmas.{length-put_all-more}
use Rattle.fq_expr.proofs.MadeLemmas.{made-outputs}
use Rattle.fq_expr.proofs.SelectionLemmas.{ok-same, added-kinds, added-lengths, added-rows, made-item}
use Rattle.fq_expr.proofs.application.add_columns.Goals as goal
use Rattle.fq_expr.proofs.application.add_columns.Goals.{After-into_parts-schema, In_ok-outputs, In_ok-put_columns}

-- the items' columns in the rows before the first that faults
outputs : (c : In_ok-outputs) → AreOutputs c.args.batch.fields (items_of c.args.items.now) c.args.batch.rows c.in_ok-outputs.outputs.columns.items c.in_ok-outputs.outputs.rows c.in_ok-outputs.outputs.item
outputs c =
    let made = c.in_ok-evaluated.evaluated in
    made-outputs c.args.batch (items_of c.args.items.now) made.columns.items made.rows c.in_ok-outputs.outputs.rows made.item c.in_ok-outputs.outputs.item c.in_ok-outputs.outputs.columns.items c.in_ok-evaluated.ensures c.in_ok-outputs.ensures.columns c.in_ok-outputs.ensures.rows

pub evaluate_items-requires-clause-kinds : goal.evaluate_items-requires-clause-kinds
evaluate_items-requires-clause-kinds c =
    let s = ok-is (step_schema c.args.batch.fields (with_columns (items_of c.args.items.now))) c.requires in
    ap is_ok (with_columns-ok c.args.batch.fields (items_of c.args.items.now) s.0 s.1).1.kinds

pub evaluate_items-requires-clause-bound : goal.evaluate_items-requires-clause-bound
evaluate_items-requires-clause-bound c =
    let s = ok-is (step_schema c.args.batch.fields (with_columns (items_of c.args.items.now))) c.requires in
    let a = with_columns-ok c.args.batch.fields (items_of c.args.items.now) s.0 s.1 in
    omega (arith, adds-bound c.args.batch.fields (items_of c.args.items.now) s.0 a.0 a.1 (length-item_names c.args.items.now ∙ sym (length-items_of c.args.items.now)), length-items_of c.args.items.now)

-- the schema and the columns of the rows before the first that faults
fields : (c : After-into_parts-schema) → c.into_parts-schema.result.0 ≡ c.args.batch.fields
fields c = c.into_parts-schema.ensures.schema ∙ ap (λ (f : Frame). f.fields) c.cut.ensures

stands : (c : After-into_parts-schema) → StandsIn c.args.batch.fields c.into_parts-schema.result.1.items
stands c = let P : Fields → Type 0 = λ f. StandsIn f c.into_parts-schema.result.1.items in subst P (ap (λ (f : Frame). f.fields) c.cut.ensures) c.into_parts-schema.ensures.columns

rows : (c : After-into_parts-schema) → rows_of (height_of c.into_parts-schema.result.1.items) (map cells_of_column c.into_parts-schema.result.1.items) ≡ take c.in_ok-outputs.outputs.rows c.args.batch.rows
rows c = ap (λ (f : Frame). f.rows) (c.into_parts-schema.ensures.rows ∙ c.cut.ensures)

pub put_columns-requires-clause-width : goal.put_columns-requires-clause-width
put_columns-requires-clause-width c = let d = (goal.at.put_columns-requires-clause-width c).After-into_parts-schema in
    sym (length-map c.into_parts-schema.result.1.items kind_of_cells) ∙ ap length (stands d).kinds ∙ length-map c.args.batch.fields (λ (f : Field). f.1) ∙ ap (λ (f : Fields). length f) (sym (fields d))

pub put_columns-requires-clause-room : goal.put_columns-requires-clause-room
put_columns-requires-clause-room c = let d = (goal.at.put_columns-requires-clause-room c).After-into_parts-schema in
    let items = items_of c.args.items.now in
    let s = ok-is (step_schema c.args.batch.fields (with_columns items)) c.requires in
    let a = with_columns-ok c.args.batch.fields items s.0 s.1 in
    let same : a.0 ≡ map kind_of_cells c.in_ok-outputs.outputs.columns.items = ok-same a.0 (map kind_of_cells c.in_ok-outputs.outputs.columns.items) (all_kinds c.args.batch.fields items) a.1.kinds (outputs (goal.at.put_columns-requires-clause-room c).In_ok-outputs).kinds in
    let e : length (put_all c.into_parts-schema.result.0 (zip (item_names items) (map kind_of_cells (into_iter_items c.into_iter.result)))) ≡ length (put_all c.args.batch.fields (fields_of (item_names items) a.0)) =
    λ i. length (put_all (fields d i) (zip (item_names items) ((ap (map kind_of_cells) c.into_iter.ensures.rest ∙ sym same) i))) in
    omega (arith, e, adds-room c.args.batch.fields items s.0 a.0 a.1 (length-item_names c.args.items.now ∙ sym (length-items_of c.args.items.now)))

-- what was put among the columns
schema : (c : In_ok-put_columns) → c.put_columns.new.schema ≡ put_all c.args.batch.fields (zip (item_names (items_of c.args.items.now)) (map kind_of_cells c.in_ok-outputs.outputs.columns.items))
schema c = c.in_ok-put_columns.ensures.schema ∙ (λ i. put_all (fields (goal.at.In_ok-put_columns c).After-into_parts-schema i) (zip (item_names (items_of c.args.items.now)) (map kind_of_cells (c.into_iter.ensures.rest i))))

under : (c : In_ok-put_columns) → zip (names_of c.put_columns.new.schema) c.put_columns.new.columns.items
    ≡ put_all (zip (names_of c.args.batch.fields) c.into_parts-schema.result.1.items) (zip (item_names (items_of c.args.items.now)) c.in_ok-outputs.outputs.columns.items)
under c = c.in_ok-put_columns.ensures.columns ∙ (λ i. put_all (zip (names_of (fields (goal.at.In_ok-put_columns c).After-into_parts-schema i)) c.into_parts-schema.result.1.items) (zip (item_names (items_of c.args.items.now)) (c.into_iter.ensures.rest i)))

pub new-requires-clause-kinds : goal.new-requires-clause-kinds
new-requires-clause-kinds c = let d = goal.at.new-requires-clause-kinds c in
    added-kinds c.args.batch.fields (items_of c.args.items.now) c.args.batch.rows c.in_ok-outputs.outputs.columns.items c.in_ok-outputs.outputs.rows c.in_ok-outputs.outputs.item (outputs (goal.at.new-requires-clause-kinds c).In_ok-outputs)
    c.into_parts-schema.result.1.items (stands d.After-into_parts-schema) (rows d.After-into_parts-schema) c.put_columns.new.schema (schema d.In_ok-put_columns) c.put_columns.new.columns.items (under d.In_ok-put_columns) c.in_ok-put_columns.ensures.width

pub new-requires-clause-lengths : goal.new-requires-clause-lengths
new-requires-clause-lengths c = let d = goal.at.new-requires-clause-lengths c in
    added-lengths c.args.batch.fields (items_of c.args.items.now) c.args.batch.rows c.in_ok-outputs.outputs.columns.items c.in_ok-outputs.outputs.rows c.in_ok-outputs.outputs.item (outputs (goal.at.new-requires-clause-lengths c).In_ok-outputs)
    c.into_parts-schema.result.1.items (stands d.After-into_parts-schema) (rows d.After-into_parts-schema) c.put_columns.new.schema (schema d.In_ok-put_columns) c.put_columns.new.columns.items (under d.In_ok-put_columns) c.in_ok-put_columns.ensures.width

pub returns-clause-fields : goal.returns-clause-fields
returns-clause-fields c = let d = goal.at.returns-clause-fields c in
    let items = items_of c.args.items.now in
    let s = ok-is (step_schema c.args.batch.fields (with_columns items)) c.requires in
    let a = with_columns-ok c.args.batch.fields items s.0 s.1 in
    let same : a.0 ≡ map kind_of_cells c.in_ok-outputs.outputs.columns.items = ok-same a.0 (map kind_of_cells c.in_ok-outputs.outputs.columns.items) (all_kinds c.args.batch.fields items) a.1.kinds (outputs (goal.at.returns-clause-fields c).In_ok-outputs).kinds in
    ap (λ (f : Frame). f.fields) c.new.ensures
    ∙ schema d.In_ok-put_columns
    ∙ ap (λ ks. put_all c.args.batch.fields (zip (item_names items) ks)) (sym same)
    ∙ a.1.columns
    ∙ sym (fields_after-is c.args.batch.fields (with_columns items) s.0 s.1)

pub returns-clause-rows : goal.returns-clause-rows
returns-clause-rows c = let d = goal.at.returns-clause-rows c in
    let some : 0 < length c.put_columns.new.columns.items = omega (
      arith,
      c.in_ok-put_columns.ensures.width,
      ap (λ (f : Fields). length f) (schema d.In_ok-put_columns),
      (stands d.After-into_parts-schema).schema.some_column,
      length-put_all-more c.args.batch.fields (zip (item_names (items_of c.args.items.now)) (map kind_of_cells c.in_ok-outputs.outputs.columns.items)),
    ) in
    ap (λ (f : Frame). f.rows) c.new.ensures
    ∙ added-rows c.args.batch.fields (items_of c.args.items.now) c.args.batch.rows c.in_ok-outputs.outputs.columns.items c.in_ok-outputs.outputs.rows c.in_ok-outputs.outputs.item (outputs (goal.at.returns-clause-rows c).In_ok-outputs)
    c.into_parts-schema.result.1.items (stands d.After-into_parts-schema) (rows d.After-into_parts-schema) c.put_columns.new.schema (schema d.In_ok-put_columns) c.put_columns.new.columns.items (under d.In_ok-put_columns) c.in_ok-put_columns.ensures.width some

pub returns-clause-fault : goal.returns-clause-fault
returns-clause-fault c = made-item c.args.batch.fields (items_of c.args.items.now) c.args.batch.rows c.in_ok-outputs.outputs.columns.items c.in_ok-outputs.outputs.rows c.in_ok-outputs.outputs.item (outputs (goal.at.returns-clause-fault c).In_ok-outputs) (λ values row. with_values c.args.batch.fields (items_of c.args.items.now) values row)
