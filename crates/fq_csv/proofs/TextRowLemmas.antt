-- The rows that the records of a text are.
use Rattle.std.specs.Prelude.{◌==◌}
use Rattle.std.proofs.Common.{◌≡◌, ◌≤◌, ◌+◌, ◌++◌, ◌∙◌, ℕ, suc, true, List, [], ◌∷◌, Some, None, Ok, Err, length, refl, sym, ap, arith, append-nil, length-append}
use Rattle.std.proofs.lemmas.Bool.Decides.{nat_tests}
use Rattle.std.proofs.lemmas.List.{nil_from_length}
use Rattle.fq_column.specs.declared.cells.Kind.{Kind}
use Rattle.fq_column.specs.Column.{Cells}
use Rattle.fq_column.specs.Frame.{Row, kinds_of}
use Rattle.fq_column.specs.Masked.{masked}
use Rattle.fq_column.specs.Stream.{Stream, done, then_stream}
use Rattle.fq_column.proofs.MaskedLemmas.{length-masked}
use Rattle.fq_csv.specs.File.{Record, row_of, rows_after}
use Rattle.fq_csv.specs.Rows.{Holds, kinds_in, row_by_kinds, with_row}
use Rattle.fq_csv.specs.TextRows.{HoldsRowsOf, IsNoRow, fault_by}
use Rattle.fq_csv.specs.declared.faults.ScanFault.{ScanFault}
use Rattle.fq_csv.specs.declared.cells.layouts.Layout.{Layout}
use Rattle.fq_csv.specs.declared.cells.rows.NoRow.{NoRow}
use Rattle.fq_csv.specs.declared.cells.rows.NoRow.TheVariants as no
use Rattle.fq_csv.proofs.HeldRowLemmas.{Holds-more}
use Rattle.fq_csv.proofs.FileStreamLemmas.{after-fault, after-row, length-columns, row-bad, row-good, row-width, then-end}
use Rattle.fq_csv.proofs.ScanLemmas.{rows-split}

-- ---- the rows so far

pub record HasRows (layout : Layout) (rs : List Record) (columns : List Cells) : Type 0 where
  pub rows : List Row
  pub number : length rows ≡ length rs
  pub held : Holds (kinds_of layout.schema) columns rows
  pub stream : (file before limit : ℕ) → before + length rs ≤ limit → rows_after file layout limit before rs ≡ done rows

module _ (layout : Layout) where
  abbrev kinds : List Kind
  kinds = kinds_of layout.schema

  -- a row more
  pub HasRows-more : (rs : List Record) (columns : List Cells) (r : Record) (row : Row) → HasRows layout rs columns → length r ≡ length columns
      → row_by_kinds layout.nulls layout.notations (kinds_in columns) r ≡ Ok row → length row ≡ length columns → HasRows layout (rs ++ r ∷ []) (with_row columns (masked layout.projection row))
  HasRows-more rs columns r row h wide good size =
      let kept = masked layout.projection row in
      record {
        rows = h.rows ++ kept ∷ [];
        number = simp length-append (omega (arith, h.number));
        held = Holds-more kinds columns h.rows kept h.held (length-masked layout.projection row ∙ size);
        stream = λ file before limit room.
            let at = before + length rs in
            let n = length-append rs (r ∷ []) in
            let small : at + 1 ≤ limit = omega (arith, room, n) in
            let is : row_by_kinds layout.nulls layout.notations kinds r ≡ Ok row = ap (λ ks. row_by_kinds layout.nulls layout.notations ks r) (sym h.held.same_kinds) ∙ good in
            let size2 : length r ≡ length layout.schema = wide ∙ length-columns kinds columns h.rows layout.schema h.held refl in
            rows-split file layout limit before rs (r ∷ [])
            ∙ ap (λ u. then_stream u (rows_after file layout limit at (r ∷ []))) (h.stream file before limit (omega (arith, room, n)))
            ∙ ap (then_stream (done h.rows)) (after-row file layout limit at r [] kept (row-good file layout limit (at + 1) r row small size2 is));
      }

  -- a record that is not a row
  fault-is : (columns : List Cells) (rows : List Row) (file n limit : ℕ) (r : Record) (why : NoRow) → Holds kinds columns rows → n ≤ limit
      → IsNoRow layout columns r why → row_of file layout limit n r ≡ Err (fault_by file n why)
  fault-is columns rows file n limit r no.Width held small w =
      let size : length columns ≡ length layout.schema = length-columns kinds columns rows layout.schema held refl in
      row-width file layout limit n r small (λ same. (let z : (length r == length columns) ≡ true = grind (arith, nat_tests, same, size) in cc (sym w ∙ z)))
  fault-is columns rows file n limit r (no.BadCell i) held small w =
      let is : row_by_kinds layout.nulls layout.notations kinds r ≡ Err i = ap (λ ks. row_by_kinds layout.nulls layout.notations ks r) (sym held.same_kinds) ∙ w.1 in
      row-bad file layout limit n r i small (w.0 ∙ length-columns kinds columns rows layout.schema held refl) is

  pub HasRows-bad : (all rs rest : List Record) (columns : List Cells) (r : Record) (n : ℕ) (why : NoRow) → all ≡ rs ++ r ∷ rest → length rs ≡ n → HasRows layout rs columns → IsNoRow layout columns r why
      → HoldsRowsOf layout all columns (Some (n, why))
  HasRows-bad all rs rest columns r n why split number h w =
      let many : length all ≡ length rs + suc (length rest) = ap length split ∙ length-append rs (r ∷ rest) in
      record {
        rows = h.rows;
        held = h.held;
        all = λ e. cc e;
        place = (sym number ∙ sym h.number, omega (arith, many, h.number));
        stream = λ file before limit room.
            let at = before + length rs in
            let small : at + 1 ≤ limit = omega (arith, room, many) in
            ap (rows_after file layout limit before) split
            ∙ rows-split file layout limit before rs (r ∷ rest)
            ∙ ap (λ u. then_stream u (rows_after file layout limit at (r ∷ rest))) (h.stream file before limit (omega (arith, room, many)))
            ∙ ap (then_stream (done h.rows)) (after-fault file layout limit at r rest (fault_by file (at + 1) why) (fault-is columns h.rows file (at + 1) limit r why h.held small w))
            ∙ then-end h.rows (Some (fault_by file (at + 1) why))
            ∙ ap (λ m. let u : Stream ScanFault = record { rows = h.rows; fault = Some (fault_by file (before + m + 1) why) } in u) number;
      }

  -- all of them are rows
  pub HasRows-all : (all rs rest : List Record) (columns : List Cells) → all ≡ rs ++ rest → length rs ≡ length all → HasRows layout rs columns → HoldsRowsOf layout all columns None
  HasRows-all all rs rest columns split number h =
      let none : rest ≡ [] = nil_from_length rest (omega (arith, ap length split ∙ length-append rs rest, number)) in
      let same : all ≡ rs = split ∙ ap (λ ys. rs ++ ys) none ∙ append-nil rs in
      record {
        rows = h.rows;
        held = h.held;
        all = λ e. h.number ∙ number;
        place = tt;
        stream = λ file before limit room. ap (rows_after file layout limit before) same ∙ h.stream file before limit (omega (arith, room, number));
      }
