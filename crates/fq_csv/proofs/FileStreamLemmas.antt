-- The stream of a file, record by record.
use Rattle.std.proofs.Common.{◌≡◌, ◌≢◌, ◌≤◌, ◌+◌, ℕ, List, [], ◌∷◌, true, false, Option, Ok, Err, length, refl, sym, ap, arith, ◌∙◌}
use Rattle.std.specs.Prelude.{◌==◌, zip, Result}
use Rattle.std.specs.List.{range_with_len}
use Rattle.std.proofs.lemmas.List.{append-nil, length-map}
use Rattle.std.proofs.lemmas.Bool.{le-ltb}
use Rattle.std.proofs.lemmas.Bool.Decides.{nat_tests}
use Rattle.fq_column.specs.declared.cells.Kind.{Kind}
use Rattle.fq_column.specs.Column.{Cells}
use Rattle.fq_column.specs.Frame.{Fields, Row, kinds_of}
use Rattle.fq_column.specs.Masked.{masked}
use Rattle.fq_column.specs.Stream.{Stream, done, faulted, one_by_one, then_stream}
use Rattle.fq_csv.specs.File.{Record, row_of, rows_after}
use Rattle.fq_csv.specs.Rows.{Holds, row_by_kinds}
use Rattle.fq_csv.specs.declared.cells.layouts.Layout.{Layout}
use Rattle.fq_csv.specs.declared.faults.ScanFault.{ScanFault}
use Rattle.fq_csv.specs.declared.faults.ScanFault.TheVariants.{BadCell, Width}

-- ---- one record

one-row : {X F : Type 0} (step : X → Result (List Row) F) (x : X) (xs : List X) (rows : List Row) → step x ≡ Ok rows → one_by_one step (x ∷ xs) ≡ then_stream (done rows) (one_by_one step xs)
one-row step x xs rows e = rw (e, one_by_one) refl

one-fault : {X F : Type 0} (step : X → Result (List Row) F) (x : X) (xs : List X) (fault : F) → step x ≡ Err fault → one_by_one step (x ∷ xs) ≡ faulted fault
one-fault step x xs fault e = rw (e, one_by_one) refl

module _ (file : ℕ) (layout : Layout) (limit : ℕ) where
  pub row-width : (n : ℕ) (fs : Record) → n ≤ limit → length fs ≢ length layout.schema → row_of file layout limit n fs ≡ Err (Width file n)
  row-width n fs h w = let e : (length fs == length layout.schema) ≡ false = grind (arith, nat_tests) in rw (le-ltb limit n h, e) refl

  pub row-bad : (n : ℕ) (fs : Record) (i : ℕ) → n ≤ limit → length fs ≡ length layout.schema → row_by_kinds layout.nulls layout.notations (kinds_of layout.schema) fs ≡ Err i → row_of file layout limit n fs ≡ Err (BadCell file n i)
  row-bad n fs i h w b =
      let e : (length fs == length layout.schema) ≡ true = grind (arith, nat_tests) in
      rw (le-ltb limit n h, e, b) refl

  pub row-good : (n : ℕ) (fs : Record) (row : Row) → n ≤ limit → length fs ≡ length layout.schema → row_by_kinds layout.nulls layout.notations (kinds_of layout.schema) fs ≡ Ok row → row_of file layout limit n fs ≡ Ok (masked layout.projection row ∷ [])
  row-good n fs row h w b =
      let e : (length fs == length layout.schema) ≡ true = grind (arith, nat_tests) in
      rw (le-ltb limit n h, e, b) refl

  -- the stream goes on after a row, and ends at a fault
  pub after-row : (n : ℕ) (fs : Record) (rs : List Record) (row : Row) → row_of file layout limit (n + 1) fs ≡ Ok (row ∷ []) → rows_after file layout limit n (fs ∷ rs) ≡ then_stream (done (row ∷ [])) (rows_after file layout limit (n + 1) rs)
  after-row n fs rs row e = one-row (λ (p : ℕ × Record). row_of file layout limit p.0 p.1) (n + 1, fs) (zip (range_with_len (n + 1 + 1) (length rs)) rs) (row ∷ []) e

  pub after-rows : (n : ℕ) (fs : Record) (rs : List Record) (rows : List Row) → row_of file layout limit (n + 1) fs ≡ Ok rows → rows_after file layout limit n (fs ∷ rs) ≡ then_stream (done rows) (rows_after file layout limit (n + 1) rs)
  after-rows n fs rs rows e = one-row (λ (p : ℕ × Record). row_of file layout limit p.0 p.1) (n + 1, fs) (zip (range_with_len (n + 1 + 1) (length rs)) rs) rows e

  pub after-fault : (n : ℕ) (fs : Record) (rs : List Record) (fault : ScanFault) → row_of file layout limit (n + 1) fs ≡ Err fault → rows_after file layout limit n (fs ∷ rs) ≡ faulted fault
  after-fault n fs rs fault e = one-fault (λ (p : ℕ × Record). row_of file layout limit p.0 p.1) (n + 1, fs) (zip (range_with_len (n + 1 + 1) (length rs)) rs) fault e

-- ---- rows before a stream

pub then-end : (rows : List Row) (fault : Option ScanFault) → ◌≡◌ {A = Stream ScanFault} (then_stream (done rows) (record { rows = []; fault = fault })) (record { rows = rows; fault = fault })
then-end rows fault = ap (λ rs. let v : Stream ScanFault = record { rows = rs; fault = fault } in v) (append-nil rows)

-- as many columns as kinds
pub length-columns : (kinds : List Kind) (columns : List Cells) (rows : List Row) (fields : Fields) → Holds kinds columns rows → kinds_of fields ≡ kinds → length columns ≡ length fields
length-columns kinds columns rows fields h e = sym (length-map columns (λ (c : Cells). c.kind)) ∙ ap length (h.same_kinds ∙ sym e) ∙ length-map fields (λ f. f.1)
