-- Items evaluated one after the other, each on the rows that those before it have values for.
use Rattle.std.proofs.Common.{◌≡◌, ℕ, ◌<◌, ◌≤◌, List, [], ◌∷◌, ◌++◌, length, map, take, refl, ap, sym, ◌∙◌, arith, Option, Some, None, Ok, subst}
use Rattle.std.proofs.lemmas.List.{length-take-le, map-append}
use Rattle.fq_column.specs.Batch.{kind_of_cells}
use Rattle.fq_column.specs.Column.{Cells}
use Rattle.fq_column.specs.Frame.{Fields, Row}
use Rattle.fq_column.specs.Lists.{before_missing}
use Rattle.fq_column.proofs.BatchLemmas.{changed}
use Rattle.fq_expr.specs.declared.operands.Outcome.{Outcome}
use Rattle.fq_expr.specs.Expression.{Item}
use Rattle.fq_expr.specs.Operand.{kind_in_rows, cells_in_rows}
use Rattle.fq_expr.specs.Evaluated.{IsOutcome}
use Rattle.fq_expr.specs.Outputs.{AreOutputs, SoFar, item_fault, rows_before_fault, first_fault, value_or_null, cells_of_column}
use Rattle.fq_expr.specs.Value.{value_of}
use Rattle.fq_expr.proofs.OutcomeLemmas.{outcome-rows, outcome-rows-le}
use Rattle.fq_expr.proofs.PrefixLemmas.{take-take-le, map-take}
use Rattle.fq_expr.proofs.ItemRowLemmas.{all_kinds-snoc, item_fault-snoc, rows_before-snoc, first_fault-same, first_fault-new, rows_before-none, first_fault-none, values-before}

pub no-item : (fields : Fields) (rows : List Row) (columns : List Cells) (n : ℕ) → columns ≡ [] → n ≡ length rows → SoFar fields [] rows columns n None
no-item fields rows columns n e h = record {
  kinds = ap (λ cs. Ok (map kind_of_cells cs)) (sym e);
  cells = ap (map (λ (c : Cells). take n c.cells)) e;
  rows_before = h ∙ sym (rows_before-none fields rows);
  fault = sym (first_fault-none fields rows);
  within = omega (arith, h);
}

-- fewer rows of columns that have been cut
cut-again : (m n : ℕ) (cs : List Cells) → m ≤ n → map (λ (c : Cells). take m c.cells) cs ≡ map (take m) (map (λ (c : Cells). take n c.cells) cs)
cut-again m n [] h = refl
cut-again m n (c ∷ cs) h = λ i. sym (take-take-le m n c.cells h) i ∷ cut-again m n cs h i

pub cut-changed : (n : ℕ) (cs : List Cells) → map cells_of_column (map (changed (take n)) cs) ≡ map (λ (c : Cells). take n c.cells) cs
cut-changed n [] = refl
cut-changed n (c ∷ cs) = ap (λ l. take n c.cells ∷ l) (cut-changed n cs)

pub kinds-changed : (n : ℕ) (cs : List Cells) → map kind_of_cells (map (changed (take n)) cs) ≡ map kind_of_cells cs
kinds-changed n [] = refl
kinds-changed n (c ∷ cs) = ap (λ l. c.kind ∷ l) (kinds-changed n cs)

-- fewer rows of the items' values
values-cut : (m n : ℕ) (fields : Fields) (rows : List Row) (items : List Item) → m ≤ n → map (take m) (map (λ i. map (value_or_null fields i.1) (take n rows)) items) ≡ map (λ i. map (value_or_null fields i.1) (take m rows)) items
values-cut m n fields rows [] h = refl
values-cut m n fields rows (i ∷ items) h = λ j. (sym (map-take (value_or_null fields i.1) m (take n rows)) ∙ ap (map (value_or_null fields i.1)) (take-take-le m n rows h)) j ∷ values-cut m n fields rows items h j

-- a column has the kind and the values that an item was evaluated to
abbrev pub Fits : Cells → Outcome → Type 0
Fits column u = (column.kind ≡ kind_in_rows u.operand) × (take u.rows column.cells ≡ cells_in_rows u.rows u.operand)

module _ (fields : Fields) (items : List Item) (rows : List Row) (columns : List Cells) (n : ℕ) (item : Option ℕ) (x : Item) (u : Outcome) (so : SoFar fields items rows columns n item) (is : IsOutcome fields x.1 (take n rows) u) where
  fewer : u.rows ≤ n
  fewer = omega (arith, outcome-rows-le fields x.1 (take n rows) u is, length-take-le n rows so.within)

  count : u.rows ≡ rows_before_fault (item_fault fields (items ++ x ∷ [])) rows
  count = outcome-rows fields x.1 (take n rows) u is
      ∙ ap (λ k. length (before_missing (map (value_of fields x.1) (take k rows)))) so.rows_before
      ∙ sym (rows_before-snoc (item_fault fields items) (item_fault fields (items ++ x ∷ [])) (value_of fields x.1) (length items) (item_fault-snoc fields items x) rows)

  values : cells_in_rows u.rows u.operand ≡ map (value_or_null fields x.1) (take u.rows rows)
  values = is.cells ∙ values-before fields x.1 (take n rows)
      ∙ ap (λ k. map (value_or_null fields x.1) (take k (take n rows))) (sym (outcome-rows fields x.1 (take n rows) u is))
      ∙ ap (map (value_or_null fields x.1)) (take-take-le u.rows n rows fewer)

  stepped : (column : Cells) (item' : Option ℕ) → Fits column u → item' ≡ first_fault (item_fault fields (items ++ x ∷ [])) rows → SoFar fields (items ++ x ∷ []) rows (columns ++ column ∷ []) u.rows item'
  stepped column item' fits f = record {
    kinds = all_kinds-snoc fields items x (map kind_of_cells columns) (kind_in_rows u.operand) so.kinds is.kind
        ∙ ap (λ k. Ok (map kind_of_cells columns ++ k ∷ [])) (sym fits.0) ∙ ap Ok (sym (map-append kind_of_cells columns (column ∷ [])));
    cells = map-append (λ (c : Cells). take u.rows c.cells) columns (column ∷ [])
        ∙ (λ i. (cut-again u.rows n columns fewer ∙ ap (map (take u.rows)) so.cells ∙ values-cut u.rows n fields rows items fewer) i ++ (fits.1 ∙ values) i ∷ [])
        ∙ sym (map-append (λ (i : Item). map (value_or_null fields i.1) (take u.rows rows)) items (x ∷ []));
    rows_before = count;
    fault = f;
    within = omega (arith, fewer, so.within);
  }

  -- the item has fewer values: it is the lowest that faults on the row after them
  pub item-faults : (column : Cells) → Fits column u → u.rows < n → SoFar fields (items ++ x ∷ []) rows (columns ++ column ∷ []) u.rows (Some (length items))
  item-faults column fits h = stepped column (Some (length items)) fits
      (sym (first_fault-new (item_fault fields items) (item_fault fields (items ++ x ∷ [])) (value_of fields x.1) (length items) (item_fault-snoc fields items x) rows (omega (arith, count, so.rows_before, h))))

  -- the item has a value on each row
  pub item-has-values : (column : Cells) → Fits column u → n ≤ u.rows → SoFar fields (items ++ x ∷ []) rows (columns ++ column ∷ []) n item
  item-has-values column fits h = let same : u.rows ≡ n = omega (arith, fewer, h) in
      let P : ℕ → Type 0 = λ k. SoFar fields (items ++ x ∷ []) rows (columns ++ column ∷ []) k item in
      subst P same (stepped column item fits (so.fault ∙ sym (first_fault-same (item_fault fields items) (item_fault fields (items ++ x ∷ [])) (value_of fields x.1) (length items) (item_fault-snoc fields items x) rows (omega (arith, count, so.rows_before, h)))))

-- after all items the columns are cut
pub all-items : (fields : Fields) (items : List Item) (rows : List Row) (columns : List Cells) (n : ℕ) (item : Option ℕ) → SoFar fields items rows columns n item → AreOutputs fields items rows (map (changed (take n)) columns) n item
all-items fields items rows columns n item so = record {
  kinds = so.kinds ∙ ap Ok (sym (kinds-changed n columns));
  cells = cut-changed n columns ∙ so.cells;
  rows_before = so.rows_before;
  fault = so.fault;
}
