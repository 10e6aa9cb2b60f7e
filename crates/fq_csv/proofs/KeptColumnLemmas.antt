-- Which columns of a file are kept changes none of its faults.
use Rattle.std.proofs.Common.{◌≡◌, ◌+◌, ◌∙◌, ℕ, Bool, true, false, List, [], ◌∷◌, Result, Ok, Err, length, map, refl}
use Rattle.std.specs.Prelude.{◌==◌, not, nat_lt, zip, Option, if◌then◌else◌}
use Rattle.std.specs.List.{range_with_len}
use Rattle.std.specs.Result.{result_map_both}
use Rattle.csv.specs.Reading.{default_config, records, strip_bom}
use Rattle.fq_column.specs.declared.cells.Cell.{Cell}
use Rattle.fq_column.specs.declared.cells.Kind.{Kind}
use Rattle.fq_column.specs.Frame.{Fields, Row, kinds_of, names_of, same_name}
use Rattle.fq_column.specs.Lists.{all_or_missing}
use Rattle.fq_column.specs.Masked.{masked, masked_stream}
use Rattle.fq_column.specs.Stream.{Stream, faulted, one_by_one}
use Rattle.fq_column.proofs.MaskedLemmas.{one_by_one-masked}
use Rattle.fq_notation.specs.declared.notations.Notation.{Notation}
use Rattle.fq_csv.specs.Field.{cell_under}
use Rattle.fq_csv.specs.File.{Record, all_kept, cells_by, file_stream, row_by, rows_by, rows_under_header_by}
use Rattle.fq_csv.specs.declared.faults.ScanFault.{ScanFault}
use Rattle.fq_csv.specs.declared.faults.ScanFault.TheVariants.{BadCell, Header, TooLong, Width}
use Rattle.fq_csv.specs.declared.cells.layouts.Layout.{Layout}
use lib.Pointwise.{pointwise}

module _ (read : Kind → Notation → List ℕ → Option Cell) (notations : List Notation) (marks : List Bool) (file : ℕ) (fields : Fields) (limit : ℕ) where
  -- a row, or its first fault, by what was judged of it
  abbrev judged : List Bool → ℕ → Bool → Bool → Result Row ℕ → Result (List Row) ScanFault
  judged ms n late wide row =
      if late then Err (TooLong file) else if not wide then Err (Width file n) else result_map_both (λ row. masked ms row ∷ []) (BadCell file n) row

  row-masked : (n : ℕ) (fs : Record) → row_by read notations marks file fields limit n fs ≡ result_map_both (map (masked marks)) (λ fault. fault) (row_by read notations [] file fields limit n fs)
  row-masked n fs = go (nat_lt limit n) (length fs == length fields) (all_or_missing (cells_by read notations (kinds_of fields) fs))
    where
      go : (late wide : Bool) (row : Result Row ℕ) → judged marks n late wide row ≡ result_map_both (map (masked marks)) (λ fault. fault) (judged [] n late wide row)
      go true wide row = refl
      go false false row = refl
      go false true (Ok row) = refl
      go false true (Err i) = refl

  rows-masked : (n : ℕ) (rs : List Record) → rows_by read notations marks file fields limit n rs ≡ masked_stream marks (rows_by read notations [] file fields limit n rs)
  rows-masked n rs =
      let numbered : List (ℕ × Record) = zip (range_with_len (n + 1) (length rs)) rs in
      (λ i. one_by_one (λ (p : ℕ × Record). row-masked p.0 p.1 i) numbered)
      ∙ one_by_one-masked marks (λ (p : ℕ × Record). row_by read notations [] file fields limit p.0 p.1) numbered

  pub records-masked : (rs : List Record) → rows_under_header_by read notations marks file fields limit rs ≡ masked_stream marks (rows_under_header_by read notations [] file fields limit rs)
  records-masked [] = refl
  records-masked (r ∷ rs) = go (pointwise same_name (names_of fields) r)
    where
      go : (is : Bool) → ◌≡◌ {A = Stream ScanFault} (if is then rows_by read notations marks file fields limit 0 rs else faulted (Header file))
          (masked_stream marks (if is then rows_by read notations [] file fields limit 0 rs else faulted (Header file)))
      go true = rows-masked 0 rs
      go false = refl

pub file-masked : (file : ℕ) (layout : Layout) (limit : ℕ) (bytes : List ℕ) → file_stream file layout limit bytes ≡ masked_stream layout.projection (file_stream file (all_kept layout) limit bytes)
file-masked file layout limit bytes = records-masked (cell_under layout.nulls) layout.notations layout.projection file layout.schema limit (records default_config (strip_bom bytes))
