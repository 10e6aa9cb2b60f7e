-- The batches that `select` and `with_columns` make of the columns of their items.
use Rattle.std.proofs.Common.{◌≡◌, ℕ, ◌<◌, List, [], ◌∷◌, length, map, take, refl, ap, sym, ◌∙◌, arith, Option, Ok, Result}
use Rattle.std.specs.Prelude.{All}
use Rattle.std.specs.List.{zip}
use Rattle.std.specs.Result.{result_map_both}
use Rattle.std.proofs.lemmas.List.{length-map}
use Rattle.fq_column.specs.declared.cells.Cell.{Cell}
use Rattle.fq_column.specs.declared.cells.Kind.{Kind}
use Rattle.fq_column.specs.declared.cells.Kind.TheVariants as kind
use Rattle.fq_column.specs.declared.faults.StepFault.{StepFault}
use Rattle.fq_column.specs.Batch.{height_of, kind_of_cells, frame_of, StandsIn}
use Rattle.fq_column.specs.Column.{Cells}
use Rattle.fq_column.specs.Frame.{Field, Fields, Row, kinds_of, names_of, rows_of, put_all}
use Rattle.fq_column.specs.Stream.{one_by_one}
use Rattle.fq_column.proofs.BatchLemmas.{of_height, length-rows_of}
use Rattle.fq_column.proofs.SchemaLemmas.{kinds_of-fields_of}
use Rattle.fq_expr.specs.Expression.{Item, with_columns, select}
use Rattle.fq_expr.specs.Kinds.{item_names, step_schema}
use Rattle.fq_expr.specs.Outputs.{AreOutputs, all_kinds, value_or_null, cells_of_column}
use Rattle.fq_expr.specs.Steps.{item_values, rows_after, with_values}
use Rattle.fq_expr.proofs.JudgementLemmas.{select-ok}
use Rattle.fq_expr.proofs.OutputLemmas.{length-all_kinds}
use Rattle.fq_expr.proofs.ProjectionLemmas.{rows_of-functions, frame-of-functions, lengths-of-functions, places, columns-are-functions, map-under}
use Rattle.fq_column.proofs.PutColumnLemmas.{put_all-zip, values-second, values-zip, zip-eta}
use Rattle.fq_expr.proofs.ItemRowLemmas.{made-rows, made-fault}

map-map : {X Y Z : Type 0} (g : Y → Z) (f : X → Y) (xs : List X) → map (λ x. g (f x)) xs ≡ map g (map f xs)
map-map g f [] = refl
map-map g f (x ∷ xs) = ap (λ l. g (f x) ∷ l) (map-map g f xs)

map-same : {X Y : Type 0} (f g : X → Y) (xs : List X) → ((x : X) → f x ≡ g x) → map f xs ≡ map g xs
map-same f g [] h = refl
map-same f g (x ∷ xs) h = λ i. h x i ∷ map-same f g xs h i

map-id : {X : Type 0} (xs : List X) → map (λ x. x) xs ≡ xs
map-id [] = refl
map-id (x ∷ xs) = ap (λ l. x ∷ l) (map-id xs)

pub ok-same : (ks ls : List Kind) (r : Result (List Kind) StepFault) → r ≡ Ok ks → r ≡ Ok ls → ks ≡ ls
ok-same ks ls r e f = cc

-- the values of the items, as functions of the row
abbrev pub functions : Fields → List Item → List (Row → Cell)
functions fields items = map (λ i. value_or_null fields i.1) items

module _ (fields : Fields) (items : List Item) (all : List Row) (columns : List Cells) (n : ℕ) (item : Option ℕ) (are : AreOutputs fields items all columns n item) where
  pub outputs-cells : map cells_of_column columns ≡ map (λ h. map h (take n all)) (functions fields items)
  outputs-cells = are.cells ∙ map-map (λ (h : Row → Cell). map h (take n all)) (λ (i : Item). value_or_null fields i.1) items

  pub outputs-lengths : All (λ (c : Cells). length c.cells ≡ height_of columns) columns
  outputs-lengths = lengths-of-functions (take n all) columns (functions fields items) outputs-cells

  pub length-outputs : length columns ≡ length items
  length-outputs = sym (length-map columns kind_of_cells) ∙ length-all_kinds fields items (map kind_of_cells columns) are.kinds

  -- one row of each row before the first that faults
  pub made : (f : List Cell → Row → Row) → map (λ row. f (map (λ i. value_or_null fields i.1 row) items) row) (take n all)
      ≡ (one_by_one (λ row. result_map_both (λ values. f values row ∷ []) (λ i. i) (item_values fields items row)) all).rows
  made f = ap (λ k. map (λ row. f (map (λ i. value_or_null fields i.1 row) items) row) (take k all)) are.rows_before ∙ sym (made-rows fields items f all)

  pub made-item : (f : List Cell → Row → Row) → item ≡ (one_by_one (λ row. result_map_both (λ values. f values row ∷ []) (λ i. i) (item_values fields items row)) all).fault
  made-item f = are.fault ∙ sym (made-fault fields items f all)

  -- ---- select
  module _ (after : Fields) (judged : step_schema fields (select items) ≡ Ok after) (named : length (item_names items) ≡ length items) where
    pub selected-kinds : map kind_of_cells columns ≡ kinds_of after
    selected-kinds = let s = select-ok fields items after judged in
        let same : s.0 ≡ map kind_of_cells columns = ok-same s.0 (map kind_of_cells columns) (all_kinds fields items) s.1.kinds are.kinds in
        sym (ap (map (λ (f : Field). f.1)) (sym s.1.columns) ∙ kinds_of-fields_of (item_names items) s.0 (named ∙ sym (length-all_kinds fields items s.0 s.1.kinds)) ∙ same)

    pub selected-rows : 0 < length items → (frame_of after columns).rows ≡ (one_by_one (rows_after fields (select items)) all).rows
    selected-rows some = frame-of-functions after (take n all) columns (functions fields items) (omega (arith, length-outputs, some)) outputs-cells
        ∙ map-same (λ row. map (λ h. h row) (functions fields items)) (λ row. map (λ i. value_or_null fields i.1 row) items) (take n all) (λ row. sym (map-map (λ (h : Row → Cell). h row) (λ (i : Item). value_or_null fields i.1) items))
        ∙ made (λ values row. values)

  -- ---- with_columns
  module _ (old : List Cells) (stands : StandsIn fields old) (rows : rows_of (height_of old) (map cells_of_column old) ≡ take n all)
      (schema : Fields) (put : schema ≡ put_all fields (zip (item_names items) (map kind_of_cells columns)))
      (new : List Cells) (under : zip (names_of schema) new ≡ put_all (zip (names_of fields) old) (zip (item_names items) columns)) (width : length new ≡ length schema) where
    values : map (λ p. p.1) (put_all (zip (names_of fields) old) (zip (item_names items) columns)) ≡ new
    values = ap (map (λ p. p.1)) (sym under) ∙ values-zip (names_of schema) new (length-map schema (λ f. f.0) ∙ sym width)

    -- what stands under the names, under a function of the columns
    under-map : {Y : Type 0} (f : Cells → Y) → map f new ≡ map (λ p. p.1) (put_all (zip (names_of fields) (map f old)) (zip (item_names items) (map f columns)))
    under-map f = ap (map f) (sym values) ∙ sym (values-second f (put_all (zip (names_of fields) old) (zip (item_names items) columns)))
        ∙ ap (map (λ p. p.1)) (sym (put_all-zip f (names_of fields) old (item_names items) columns))

    pub added-kinds : map kind_of_cells new ≡ kinds_of schema
    added-kinds = under-map kind_of_cells
        ∙ ap (λ ks. map (λ p. p.1) (put_all (zip (names_of fields) ks) (zip (item_names items) (map kind_of_cells columns)))) stands.kinds
        ∙ ap (λ (f : Fields). map (λ p. p.1) (put_all f (zip (item_names items) (map kind_of_cells columns)))) (zip-eta fields)
        ∙ ap (map (λ (f : Field). f.1)) (sym put)

    -- the columns that were there, as functions of the row
    abbrev before : List (Row → Cell)
    before = places 0 (length old)

    -- all columns, as functions of the row
    abbrev whole : List (Row → Cell)
    whole = map (λ p. p.1) (put_all (zip (names_of fields) before) (zip (item_names items) (functions fields items)))

    old-cells : map cells_of_column old ≡ map (λ h. map h (take n all)) before
    old-cells = columns-are-functions (height_of old) old (record { kind = kind.Whole; cells = [] }) (of_height fields old stands) ∙ ap (λ rs. map (λ h. map h rs) before) rows

    pub added-cells : map cells_of_column new ≡ map (λ h. map h (take n all)) whole
    added-cells = under-map cells_of_column
        ∙ (λ i. map (λ p. p.1) (put_all (zip (names_of fields) (old-cells i)) (zip (item_names items) (outputs-cells i))))
        ∙ ap (map (λ p. p.1)) (put_all-zip (λ (h : Row → Cell). map h (take n all)) (names_of fields) before (item_names items) (functions fields items))
        ∙ values-second (λ (h : Row → Cell). map h (take n all)) (put_all (zip (names_of fields) before) (zip (item_names items) (functions fields items)))

    pub added-lengths : All (λ (c : Cells). length c.cells ≡ height_of new) new
    added-lengths = lengths-of-functions (take n all) new whole added-cells

    -- a row of the columns with the items' values put among them
    with-these : List Cell → Row → Row
    with-these cells row = map (λ p. p.1) (put_all (zip (names_of fields) cells) (zip (item_names items) (map (λ h. h row) (functions fields items))))

    whole-row : (row : Row) → map (λ h. h row) whole ≡ with-these (map (λ h. h row) before) row
    unfolding with-these
    whole-row row = sym (values-second (λ (h : Row → Cell). h row) (put_all (zip (names_of fields) before) (zip (item_names items) (functions fields items))))
        ∙ ap (map (λ p. p.1)) (sym (put_all-zip (λ (h : Row → Cell). h row) (names_of fields) before (item_names items) (functions fields items)))

    values-row : (row : Row) → with-these row row ≡ with_values fields items (map (λ i. value_or_null fields i.1 row) items) row
    unfolding with-these
    values-row row = ap (λ vs. map (λ p. p.1) (put_all (zip (names_of fields) row) (zip (item_names items) vs))) (sym (map-map (λ (h : Row → Cell). h row) (λ (i : Item). value_or_null fields i.1) items))

    -- the rows are those of the columns that were there
    own-cells : map (λ row. map (λ h. h row) before) (take n all) ≡ map (λ row. row) (take n all)
    own-cells = sym (rows_of-functions before (take n all))
        ∙ (λ i. rows_of (sym (ap length rows) i) (sym old-cells i))
        ∙ ap (λ h. rows_of h (map cells_of_column old)) (length-rows_of (height_of old) old (of_height fields old stands))
        ∙ rows ∙ sym (map-id (take n all))

    pub added-rows : 0 < length new → (frame_of schema new).rows ≡ (one_by_one (rows_after fields (with_columns items)) all).rows
    added-rows some = frame-of-functions schema (take n all) new whole some added-cells
        ∙ map-same (λ row. map (λ h. h row) whole) (λ row. with-these (map (λ h. h row) before) row) (take n all) whole-row
        ∙ map-under (λ row. map (λ h. h row) before) (λ row. row) with-these (take n all) own-cells
        ∙ map-same (λ row. with-these row row) (λ row. with_values fields items (map (λ i. value_or_null fields i.1 row) items) row) (take n all) values-row
        ∙ made (λ values row. with_values fields items values row)
