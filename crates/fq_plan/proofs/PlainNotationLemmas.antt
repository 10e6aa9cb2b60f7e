-- Where no column has a notation, files are read and frames are printed as if there were none.
use Rattle.std.proofs.Common.{◌≡◌, ℕ, zero, suc, ◌+◌, Bool, List, [], ◌∷◌, ◌++◌, flat_map, length, map, replicate, Err, refl, ap, sym, ◌∙◌, arith}
use Rattle.std.specs.Prelude.{◌==◌, All, nat_lt, not, zip, if◌then◌else◌}
use Rattle.std.specs.List.{range_with_len}
use Rattle.std.specs.Result.{result_map_both}
use Rattle.csv.specs.Reading.{default_config, records, strip_bom}
use Rattle.csv.specs.Writing.{default_writer, row_text}
use Rattle.fq_column.specs.declared.cells.Kind.{Kind}
use Rattle.fq_column.specs.declared.cells.Kind.TheVariants.{Whole, Text, Truth}
use Rattle.fq_column.specs.Frame.{Fields, Frame, Row, kinds_of, names_of, same_name}
use Rattle.fq_column.specs.Lists.{all_or_missing, numbers, zip_with}
use Rattle.fq_column.specs.Masked.{masked}
use Rattle.fq_column.specs.Stream.{faulted, one_by_one}
use Rattle.fq_csv.specs.Field.{cell_under}
use Rattle.fq_csv.specs.File.{Record, cells_by, file_stream, noted as noted_kinds, row_by, rows_by, rows_under_header_by}
use Rattle.fq_csv.specs.Printed.{cell_text, printed, printed_in, printed_names, printed_rows_in, row_fields}
use Rattle.fq_csv.specs.Sources.{Source, layout_of, row_limit, streams_of_files}
use Rattle.fq_csv.specs.declared.faults.ScanFault.TheVariants.{Header, Width, BadCell, TooLong}
use Rattle.fq_csv.specs.declared.cells.layouts.Layout.{Layout}
use Rattle.fq_language.specs.Plan.{PlanData, file_layouts, file_streams}
use Rattle.fq_notation.specs.Notation.{notation_in}
use Rattle.fq_notation.specs.declared.notations.Notation.{Notation}
use Rattle.fq_notation.specs.declared.notations.Notation.TheVariants.{Plain}
use Rattle.fq_plan.specs.Noted.{noted, noted_layout}
use Rattle.fq_plan.proofs.NotedLemmas.{layouts-noted}
use lib.Pointwise.{pointwise}

-- ---- frames

row-plain : (fields : Fields) (row : Row) → row_fields (map (notation_in []) fields) row ≡ row_fields [] row
row-plain fields [] = refl
row-plain [] (c ∷ row) = refl
row-plain ((name, Whole) ∷ fields) (c ∷ row) = ap (λ rest. cell_text Plain c ∷ rest) (row-plain fields row)
row-plain ((name, Text) ∷ fields) (c ∷ row) = ap (λ rest. cell_text Plain c ∷ rest) (row-plain fields row)
row-plain ((name, Truth) ∷ fields) (c ∷ row) = ap (λ rest. cell_text Plain c ∷ rest) (row-plain fields row)

rows-plain : (fields : Fields) (rows : List Row) → printed_rows_in (map (notation_in []) fields) rows ≡ printed_rows_in [] rows
rows-plain fields [] = refl
rows-plain fields (row ∷ rows) = λ i. row_text default_writer (row-plain fields row i) ++ rows-plain fields rows i

pub printed-plain : (fields : Fields) (frame : Frame) → printed_in (map (notation_in []) fields) frame ≡ printed frame
printed-plain fields frame = ap (λ rows. printed_names frame.fields ++ rows) (rows-plain fields frame.rows)

-- ---- files

kinds-plain : (fields : Fields) (kinds : List Kind) → noted_kinds (map (notation_in []) fields) kinds ≡ noted_kinds [] kinds
kinds-plain fields [] = refl
kinds-plain [] (k ∷ kinds) = refl
kinds-plain ((name, Whole) ∷ fields) (k ∷ kinds) = ap (λ rest. (k, Plain) ∷ rest) (kinds-plain fields kinds)
kinds-plain ((name, Text) ∷ fields) (k ∷ kinds) = ap (λ rest. (k, Plain) ∷ rest) (kinds-plain fields kinds)
kinds-plain ((name, Truth) ∷ fields) (k ∷ kinds) = ap (λ rest. (k, Plain) ∷ rest) (kinds-plain fields kinds)

module _ (nulls : List (List ℕ)) (columns : Fields) (marks : List Bool) (file : ℕ) (fields : Fields) (limit : ℕ) where
  cells-plain : (fs : Record) → cells_by (cell_under nulls) (map (notation_in []) columns) (kinds_of fields) fs ≡ cells_by (cell_under nulls) [] (kinds_of fields) fs
  cells-plain fs = ap (λ ks. zip_with (λ (k : Kind × Notation) field. cell_under nulls k.0 k.1 field) ks fs) (kinds-plain columns (kinds_of fields))

  record-plain : (n : ℕ) (fs : Record) → row_by (cell_under nulls) (map (notation_in []) columns) marks file fields limit n fs ≡ row_by (cell_under nulls) [] marks file fields limit n fs
  record-plain n fs = λ i.
      if nat_lt limit n then Err (TooLong file)
      else if not (length fs == length fields) then Err (Width file n)
      else result_map_both (λ row. masked marks row ∷ []) (BadCell file n) (all_or_missing (cells-plain fs i))

  records-plain : (n : ℕ) (rs : List Record) → rows_by (cell_under nulls) (map (notation_in []) columns) marks file fields limit n rs ≡ rows_by (cell_under nulls) [] marks file fields limit n rs
  records-plain n rs = λ i. one_by_one (λ (p : ℕ × Record). record-plain p.0 p.1 i) (zip (range_with_len (n + 1) (length rs)) rs)

  headed-plain : (rs : List Record) → rows_under_header_by (cell_under nulls) (map (notation_in []) columns) marks file fields limit rs ≡ rows_under_header_by (cell_under nulls) [] marks file fields limit rs
  headed-plain [] = refl
  headed-plain (r ∷ rs) = λ i. if pointwise same_name (names_of fields) r then records-plain 0 rs i else faulted (Header file)

file-plain : (i : ℕ) (layout : Layout) (limit : ℕ) (bytes : List ℕ) → layout.notations ≡ [] → file_stream i (noted_layout [] layout) limit bytes ≡ file_stream i layout limit bytes
file-plain i layout limit bytes none =
    headed-plain layout.nulls layout.schema layout.projection i layout.schema limit (records default_config (strip_bom bytes))
    ∙ ap (λ (notations : List Notation). rows_under_header_by (cell_under layout.nulls) notations layout.projection i layout.schema limit (records default_config (strip_bom bytes))) (sym none)

-- sources without notations, and layouts
abbrev ArePlainSources : List Source → Type 0
ArePlainSources [] = Unit {0}
ArePlainSources (s ∷ sources) = (s.notations ≡ []) × ArePlainSources sources

plain-sources : (sources : List Source) → All (λ s. s.notations ≡ []) sources → ArePlainSources sources
plain-sources [] all = tt
plain-sources (s ∷ sources) all = (all 0 s (omega arith), plain-sources sources (λ k d below. all (suc k) d (omega (arith, below))))

abbrev ArePlain : List Layout → Type 0
ArePlain [] = Unit {0}
ArePlain (layout ∷ layouts) = (layout.notations ≡ []) × ArePlain layouts

both-plain : (xs ys : List Layout) → ArePlain xs → ArePlain ys → ArePlain (xs ++ ys)
both-plain [] ys a b = b
both-plain (x ∷ xs) ys a b = (a.0, both-plain xs ys a.1 b)

copies-plain : (n : ℕ) (layout : Layout) → layout.notations ≡ [] → ArePlain (replicate n layout)
copies-plain zero layout none = tt
copies-plain (suc n) layout none = (none, copies-plain n layout none)

sources-plain : (sources : List Source) → ArePlainSources sources → ArePlain (flat_map (λ (s : Source). replicate s.files (layout_of s)) sources)
sources-plain [] none = tt
sources-plain (s ∷ sources) none =
    both-plain (replicate s.files (layout_of s)) (flat_map (λ (s : Source). replicate s.files (layout_of s)) sources) (copies-plain s.files (layout_of s) none.0) (sources-plain sources none.1)

streams-plain : (is : List ℕ) (layouts : List Layout) (files : List (List ℕ)) → ArePlain layouts →
    zip_with (λ i (file : Layout × List ℕ). file_stream i file.0 row_limit file.1) is (zip (map (noted_layout []) layouts) files)
    ≡ zip_with (λ i (file : Layout × List ℕ). file_stream i file.0 row_limit file.1) is (zip layouts files)
streams-plain [] layouts files plain = refl
streams-plain (i ∷ is) [] files plain = refl
streams-plain (i ∷ is) (layout ∷ layouts) [] plain = refl
streams-plain (i ∷ is) (layout ∷ layouts) (file ∷ files) plain =
    λ j. file-plain i layout row_limit file plain.0 j ∷ streams-plain is layouts files plain.1 j

pub read-plain : (p : PlanData) (files : List (List ℕ)) → All (λ s. s.notations ≡ []) p.sources → file_streams (noted [] p) files ≡ file_streams p files
read-plain p files plain =
    ap (λ layouts. streams_of_files layouts files) (layouts-noted [] p)
    ∙ streams-plain (numbers (length files)) (file_layouts p) files (sources-plain p.sources (plain-sources p.sources plain))
