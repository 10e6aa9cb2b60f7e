-- The rows of a plan's files are as wide as the columns of their sources.
use Rattle.std.proofs.Common.{◌≡◌, ℕ, zero, suc, ◌<◌, Bool, true, false, not, nat_lt, List, [], ◌∷◌, ◌++◌, length, take, drop, flat_map, replicate, sum_by, append_assoc, append-nil, Option, Result, Ok, Err, refl, ap, sym, ◌∙◌, subst, arith}
use Rattle.std.specs.Prelude.{All, zip, if◌then◌else◌}
use Rattle.std.specs.Bool.{◌==◌}
use Rattle.std.specs.Result.{result_map_both}
use Rattle.std.proofs.lemmas.Bool.Decides.{nat_tests}
use Rattle.std.proofs.Math.Seq.{drop-drop}
use Rattle.std.proofs.lemmas.List.{length-map}
use Rattle.std.proofs.lemmas.List.Elements.{All-append, All-cons, All-nil}
use Rattle.std.proofs.lemmas.List.Sums.{sum_by-cons}
use Rattle.fq_column.specs.declared.cells.Cell.{Cell}
use Rattle.fq_column.specs.declared.cells.Kind.{Kind}
use Rattle.fq_column.specs.Frame.{Fields, Row, kinds_of, names_of, same_name}
use Rattle.fq_column.specs.Lists.{all_or_missing, numbers, zip_with}
use Rattle.fq_column.specs.Masked.{masked}
use Rattle.fq_column.specs.Stream.{Stream, done, faulted, one_by_one, then_stream}
use Rattle.fq_column.proofs.ListLemmas.{length-zip_with}
use Rattle.fq_column.proofs.MaskedLemmas.{length-masked}
use Rattle.fq_csv.specs.declared.faults.ScanFault.{ScanFault}
use Rattle.fq_csv.specs.declared.faults.ScanFault.TheVariants.{BadCell, Header, TooLong, Width}
use Rattle.fq_csv.specs.declared.cells.layouts.Layout.{Layout}
use Rattle.fq_notation.specs.declared.notations.Notation.{Notation}
use Rattle.fq_csv.specs.Field.{cell_under}
use Rattle.fq_csv.specs.File.{Record, cells_by, file_stream, noted, row_by, rows_by, rows_under_header_by}
use Rattle.fq_csv.specs.Sources.{Source, but_last, layout_of, row_limit}
use Rattle.fq_csv.proofs.NotedLemmas.{length-noted}
use Rattle.fq_expr.proofs.NeededLemmas.{length-all_or_missing}
use Rattle.fq_language.specs.Plan.{PlanData, file_layouts, file_streams, main_fields, side_files}
use Rattle.fq_plan.specs.Needed.{AreWide}
use Rattle.fq_run.proofs.SourceOfFileLemmas.{has_main}
use lib.Pointwise.{pointwise}

-- ---- one file

-- rows of this width
abbrev Wide : ℕ → List Row → Type 0
Wide width rows = All (λ row. length row ≡ width) rows

wide-each : {X F : Type 0} (width : ℕ) (step : X → Result (List Row) F) → ((x : X) (rows : List Row) → step x ≡ Ok rows → Wide width rows) → (xs : List X) → Wide width (one_by_one step xs).rows
wide-each width step w [] = All-nil (λ row. length row ≡ width)
wide-each {X} {F} width step w (x ∷ xs) = go (step x) refl (wide-each width step w xs)
  where
    go : (r : Result (List Row) F) → step x ≡ r → Wide width (one_by_one step xs).rows → Wide width (elim r as (λ _. Stream F) [ Ok rows ↦ then_stream (done rows) (one_by_one step xs) | Err f ↦ faulted f ]).rows
    go (Ok rows) e rest = All-append (λ row. length row ≡ width) rows (one_by_one step xs).rows (w x rows e) rest
    go (Err f) e rest = All-nil (λ row. length row ≡ width)

same-count : (m n : ℕ) → (m == n) ≡ true → m ≡ n
same-count m n e = grind (arith, nat_tests)

module _ (read : Kind → Notation → List ℕ → Option Cell) (notations : List Notation) (marks : List Bool) (file : ℕ) (fields : Fields) (limit : ℕ) where
  row-wide : (n : ℕ) (fs : Record) (rows : List Row) → row_by read notations marks file fields limit n fs ≡ Ok rows → Wide (length fields) rows
  row-wide n fs rows e = go (nat_lt limit n) (length fs == length fields) refl e
    where
      by : (r : Result Row ℕ) → ((row : Row) → r ≡ Ok row → length row ≡ length fields) → result_map_both (λ row. masked marks row ∷ []) (BadCell file n) r ≡ Ok rows → Wide (length fields) rows
      by (Ok row) l f = subst (Wide (length fields)) (let g : masked marks row ∷ [] ≡ rows = cc in g) (All-cons (λ row. length row ≡ length fields) (masked marks row) [] (length-masked marks row ∙ l row refl) (All-nil (λ row. length row ≡ length fields)))
      by (Err i) l f = absurd (cc)

      go : (a b : Bool) → (length fs == length fields) ≡ b →
          (if a then Err (TooLong file) else if not b then Err (Width file n) else result_map_both (λ row. masked marks row ∷ []) (BadCell file n) (all_or_missing (cells_by read notations (kinds_of fields) fs))) ≡ Ok rows → Wide (length fields) rows
      go true b s f = absurd (cc)
      go false false s f = absurd (cc)
      go false true s f =
          let cells = cells_by read notations (kinds_of fields) fs in
          let forms = noted notations (kinds_of fields) in
          let count : length forms ≡ length fields = length-noted notations (kinds_of fields) ∙ length-map fields (λ f. f.1) in
          by (all_or_missing cells) (λ row g. length-all_or_missing cells row g ∙ length-zip_with (λ (k : Kind × Notation) field. read k.0 k.1 field) forms fs (same-count (length fs) (length fields) s ∙ sym count) ∙ count) f

  records-wide : (rs : List Record) → Wide (length fields) (rows_under_header_by read notations marks file fields limit rs).rows
  records-wide [] = All-nil (λ row. length row ≡ length fields)
  records-wide (r ∷ rs) = go (pointwise same_name (names_of fields) r) (wide-each (length fields) (λ (p : ℕ × Record). row_by read notations marks file fields limit p.0 p.1) (λ p rows e. row-wide p.0 p.1 rows e) _)
    where
      go : (b : Bool) → Wide (length fields) (rows_by read notations marks file fields limit 0 rs).rows → Wide (length fields) (if b then rows_by read notations marks file fields limit 0 rs else faulted (Header file)).rows
      go true w = w
      go false w = All-nil (λ row. length row ≡ length fields)

-- ---- the files of a plan

-- streams of files, as many as there are layouts or fewer, each as wide as the columns of its layout
abbrev AreLaid : List Layout → List (Stream ScanFault) → Type 0
AreLaid layouts [] = Unit {0}
AreLaid [] (u ∷ us) = ⊥
AreLaid (l ∷ layouts) (u ∷ us) = Wide (length l.schema) u.rows × AreLaid layouts us

streams-laid : (is : List ℕ) (layouts : List Layout) (files : List (List ℕ)) → AreLaid layouts (zip_with (λ i (file : Layout × List ℕ). file_stream i file.0 row_limit file.1) is (zip layouts files))
streams-laid [] layouts files = tt
streams-laid (i ∷ is) [] files = tt
streams-laid (i ∷ is) (l ∷ layouts) [] = tt
streams-laid (i ∷ is) (l ∷ layouts) (file ∷ files) = (records-wide (cell_under l.nulls) l.notations l.projection i l.schema row_limit _, streams-laid is layouts files)

-- so many files of one layout, and the files after them
laid-parts : (l : Layout) (n : ℕ) (layouts : List Layout) (us : List (Stream ScanFault)) → AreLaid (replicate n l ++ layouts) us →
    All (λ u. Wide (length l.schema) u.rows) (take n us) × AreLaid layouts (drop n us)
laid-parts l zero layouts us h = (All-nil (λ u. Wide (length l.schema) u.rows), h)
laid-parts l (suc n) layouts [] h = (All-nil (λ u. Wide (length l.schema) u.rows), tt)
laid-parts l (suc n) layouts (u ∷ us) h =
    let rest = laid-parts l n layouts us h.1 in
    (All-cons (λ (u : Stream ScanFault). Wide (length l.schema) u.rows) u (take n us) h.0 rest.0, rest.1)

laid-alone : (l : Layout) (n : ℕ) (us : List (Stream ScanFault)) → AreLaid (replicate n l) us → All (λ u. Wide (length l.schema) u.rows) us
laid-alone l n [] h = All-nil (λ u. Wide (length l.schema) u.rows)
laid-alone l zero (u ∷ us) h = absurd h
laid-alone l (suc n) (u ∷ us) h = All-cons (λ (u : Stream ScanFault). Wide (length l.schema) u.rows) u us h.0 (laid-alone l n us h.1)

abbrev pub layouts_in : List Source → List Layout
layouts_in sources = flat_map (λ (s : Source). replicate s.files (layout_of s)) sources

pub layouts-last : (sources : List Source) (main : Source) → layouts_in (sources ++ main ∷ []) ≡ layouts_in sources ++ replicate main.files (layout_of main)
layouts-last [] main = append-nil (replicate main.files (layout_of main))
layouts-last (s ∷ sources) main =
    ap (λ ls. replicate s.files (layout_of s) ++ ls) (layouts-last sources main)
    ∙ sym (append_assoc (replicate s.files (layout_of s)) (layouts_in sources) (replicate main.files (layout_of main)))

-- the files of sources, and the files after them
sources-laid : (sources : List Source) (more : List Layout) (us : List (Stream ScanFault)) → AreLaid (layouts_in sources ++ more) us →
    AreWide sources us × AreLaid more (drop (sum_by (λ (s : Source). s.files) sources) us)
sources-laid [] more us h = (tt, h)
sources-laid (s ∷ sources) more us h =
    let rest = sum_by (λ (t : Source). t.files) sources in
    let first = laid-parts (layout_of s) s.files (layouts_in sources ++ more) us (subst (λ (ls : List Layout). AreLaid ls us) (append_assoc (replicate s.files (layout_of s)) (layouts_in sources) more) h) in
    let later = sources-laid sources more (drop s.files us) first.1 in (
      (first.0, later.0),
      subst (λ (vs : List (Stream ScanFault)). AreLaid more vs) (drop-drop rest s.files us ∙ ap (λ n. drop n us) (sym (sum_by-cons (λ (t : Source). t.files) s sources))) later.1,
    )

-- the files of a plan are so wide
pub files-wide : (p : PlanData) → 0 < length p.sources → (files : List (List ℕ)) →
    AreWide (but_last p.sources) (file_streams p files) × All (λ u. Wide (length (main_fields p)) u.rows) (drop (side_files p) (file_streams p files))
files-wide p some files =
    let us = file_streams p files in
    let m = has_main p.sources some in
    let main : Source = m.0 in
    let laid : AreLaid (layouts_in (but_last p.sources) ++ replicate main.files (layout_of main)) us =
    subst (λ (ls : List Layout). AreLaid ls us) (ap layouts_in m.1.all ∙ layouts-last (but_last p.sources) main) (streams-laid (numbers (length files)) (file_layouts p) files) in
    let both = sources-laid (but_last p.sources) (replicate main.files (layout_of main)) us laid in
    (both.0, subst (λ (fs : Fields). All (λ (u : Stream ScanFault). Wide (length fs) u.rows) (drop (side_files p) us)) (sym m.1.fields) (laid-alone (layout_of main) main.files (drop (side_files p) us) both.1))
