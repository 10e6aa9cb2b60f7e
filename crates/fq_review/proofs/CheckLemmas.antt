-- What a check counts: nothing exactly if the file is clean.
use Rattle.std.proofs.Common.{◌≡◌, ◌∙◌, ◌+◌, ◌++◌, ◌≤◌, ℕ, zero, suc, Bool, true, false, List, [], ◌∷◌, Option, Some, None, Ok, Err, Result, ap, arith, length, refl, sym, string_bytes, take}
use Rattle.std.specs.Prelude.{◌==◌, ◌&&◌, is_none, is_ok, is_some, nat_le, nat_lt, slice_get, zip, MatchOption, String}
use Rattle.std.specs.Cmp.Lexicographic.{pointwise}
use Rattle.std.specs.Global.{Global}
use Rattle.std.specs.List.{list_all}
use Rattle.std.specs.Result.{result_map_both}
use Rattle.std.proofs.lemmas.Bool.Decides.{nat_tests}
use Rattle.std.proofs.Math.Bool.{and-false}
use Rattle.csv.specs.Reading.{default_config, records, strip_bom}
use Rattle.fq_column.specs.declared.cells.Cell.{Cell}
use Rattle.fq_column.specs.declared.cells.Kind.{Kind}
use Rattle.fq_column.specs.Frame.{Name, Row, kinds_of, names_of, same_name}
use Rattle.fq_column.specs.Lists.{all_or_missing, zip_with}
use Rattle.fq_notation.specs.declared.notations.Notation.{Notation}
use Rattle.fq_csv.specs.Field.{cell_under}
use Rattle.fq_column.specs.Masked.{masked}
use Rattle.fq_csv.specs.File.{Record, cells_by, noted, row_of, rows_after, rows_under_header}
use Rattle.fq_csv.specs.declared.faults.ScanFault.{ScanFault}
use Rattle.fq_csv.specs.declared.faults.ScanFault.TheVariants.{BadCell, TooLong, Width}
use Rattle.fq_csv.specs.declared.cells.layouts.Layout.{Layout}
use Rattle.fq_csv.specs.declared.scanning.scanners.TheConstants.{MAX_ROWS}
use Rattle.fq_csv.proofs.FileStreamLemmas.{after-fault, after-row}
use Rattle.fq_places.specs.Marks.{marks_of}
use Rattle.fq_places.specs.Records.{flaws_of}
use Rattle.fq_places.specs.declared.marks.Flaw.{Flaw}
use Rattle.fq_places.specs.declared.marks.Mark.{Mark}
use Rattle.fq_review.specs.Checked.{are_clean_from, are_rows, is_clean, is_flawless, is_row, layout_of, names_in}

-- ---- truth values

pub and-true : (a : Bool) → (a && true) ≡ a
and-true true = refl
and-true false = refl

pub and-assoc : (a b c : Bool) → ((a && b) && c) ≡ (a && (b && c))
and-assoc true b c = refl
and-assoc false b c = refl

apart : (p e a b : Bool) → (p && ((a && b) && e)) ≡ ((p && e) && (a && b))
apart false e a b = refl
apart true true true b = and-true b
apart true true false b = refl
apart true false true b = and-false b
apart true false false b = refl

joined : (p e a b : Bool) → ((p && e) && (a && b)) ≡ ((p && a) && (b && e))
joined false e a b = refl
joined true true true b = sym (and-true b)
joined true true false b = refl
joined true false true b = sym (and-false b)
joined true false false b = refl

-- one part more, which a holds of and e of what is before it
pub one-more : (p e a b p1 e1 p2 : Bool) → (p1 && e1) ≡ (p && e) → p2 ≡ (p1 && a) → (p && ((a && b) && e)) ≡ (p2 && (b && e1))
one-more p e a b p1 e1 p2 h k = apart p e a b ∙ ap (λ x. x && (a && b)) (sym h) ∙ joined p1 e1 a b ∙ ap (λ x. x && (b && e1)) (sym k)

-- what a check says of the next record, by what it says where there is one and where there is none
pub match-map : {X N M : Type 0} {S T : X → Type 0} (o : Option X) → (N → M) → ((x : X) → S x → T x) → MatchOption o N S → MatchOption o M T
match-map None f g h = f h
match-map (Some x) f g h = g x h

-- ---- flaws

flawless-at : (mark : Mark) (marks : List Mark) → is_flawless (mark ∷ marks) ≡ (is_none mark.flaw && is_flawless marks)
flawless-at mark marks = by mark.flaw refl
  where
    by : (o : Option Flaw) → mark.flaw ≡ o → is_flawless (mark ∷ marks) ≡ (is_none mark.flaw && is_flawless marks)
    by None e = rw e refl
    by (Some f) e = rw e refl

pub flawless-more : (marks : List Mark) (mark : Mark) → is_flawless (marks ++ mark ∷ []) ≡ (is_flawless marks && is_none mark.flaw)
flawless-more [] mark = flawless-at mark [] ∙ and-true (is_none mark.flaw)
flawless-more (m ∷ marks) mark =
    flawless-at m (marks ++ mark ∷ [])
    ∙ ap (λ b. is_none m.flaw && b) (flawless-more marks mark)
    ∙ sym (and-assoc (is_none m.flaw) (is_flawless marks) (is_none mark.flaw))
    ∙ ap (λ b. b && is_none mark.flaw) (sym (flawless-at m marks))

-- the first mark at which a flaw shows is one at which a flaw shows
first-flawed : (marks : List Mark) (mark : Mark) (more : List Mark) → flaws_of marks ≡ mark ∷ more → is_none mark.flaw ≡ false
first-flawed [] mark more e = absurd (cc)
first-flawed (m ∷ marks) mark more e = by (first-flawed marks mark more) m.flaw refl
  where
    by : (flaws_of marks ≡ mark ∷ more → is_none mark.flaw ≡ false) → (o : Option Flaw) → m.flaw ≡ o → is_none mark.flaw ≡ false
    by rest None f = rest (rw f at e)
    by rest (Some w) f =
        let here : flaws_of (m ∷ marks) ≡ m ∷ flaws_of marks = rw f refl in
        let both : m ∷ flaws_of marks ≡ mark ∷ more = sym here ∙ e in
        let same : m ≡ mark = cc in
        ap (λ (k : Mark). is_none k.flaw) (sym same) ∙ ap is_none f

empty-flawless : (marks more : List Mark) → flaws_of marks ≡ flaws_of more → is_flawless marks ≡ is_flawless more
empty-flawless marks more e = ap (λ fs. elim fs as (λ _. Bool) [ [] ↦ true | f ∷ rest ↦ false ]) e

-- the flaws that are left, after some of them
pub flawless-parts : (marks fs rest : List Mark) → flaws_of marks ≡ fs ++ flaws_of rest → is_flawless marks ≡ (is_flawless fs && is_flawless rest)
flawless-parts marks [] rest e = empty-flawless marks rest e
flawless-parts marks (f ∷ fs) rest e =
    ap (λ gs. elim gs as (λ _. Bool) [ [] ↦ true | g ∷ more ↦ false ]) e
    ∙ sym (ap (λ b. b && is_flawless rest) (flawless-at f fs ∙ ap (λ b. b && is_flawless fs) (first-flawed marks f (fs ++ flaws_of rest) e)))

-- ---- rows

module _ (layout : Layout) where
  -- a column's kind and notation
  abbrev Form : Type 0
  Form = Kind × Notation

  abbrev pub forms : List Form
  forms = noted layout.notations (kinds_of layout.schema)

  abbrev pub is_of_column : Form × List ℕ → Bool
  is_of_column p = is_some (cell_under layout.nulls p.0.0 p.0.1 p.1)

  ok-both : {X Y : Type 0} (f : X → Y) (g : ℕ → ℕ) (r : Result X ℕ) → is_ok (result_map_both f g r) ≡ is_ok r
  ok-both f g (Ok x) = refl
  ok-both f g (Err e) = refl

  one-cell : (o : Option Cell) (more : List (Option Cell)) → is_ok (all_or_missing (o ∷ more)) ≡ (is_some o && is_ok (all_or_missing more))
  one-cell None more = refl
  one-cell (Some c) more = ok-both (λ rest. c ∷ rest) suc (all_or_missing more)

  all-cells : (ks : List Form) (r : Record) → is_ok (all_or_missing (zip_with (λ (k : Form) field. cell_under layout.nulls k.0 k.1 field) ks r)) ≡ list_all is_of_column (zip ks r)
  all-cells [] r = refl
  all-cells (k ∷ ks) [] = refl
  all-cells (k ∷ ks) (x ∷ r) =
      one-cell (cell_under layout.nulls k.0 k.1 x) (zip_with (λ (g : Form) field. cell_under layout.nulls g.0 g.1 field) ks r) ∙ ap (λ b. is_of_column (k, x) && b) (all-cells ks r)

  -- a field more of a row
  pub cells-more : (ks : List Form) (r : Record) (i : ℕ) (f : Form) (x : List ℕ) → slice_get ks i ≡ Some f → slice_get r i ≡ Some x →
      list_all is_of_column (zip (take (i + 1) ks) (take (i + 1) r)) ≡ (list_all is_of_column (zip (take i ks) (take i r)) && is_of_column (f, x))
  cells-more ks r i f x a b = ap (λ n. list_all is_of_column (zip (take n ks) (take n r))) (let e : i + 1 ≡ suc i = omega arith in e) ∙ go ks r i a b
    where
      go : (ks : List Form) (r : Record) (i : ℕ) → slice_get ks i ≡ Some f → slice_get r i ≡ Some x →
          list_all is_of_column (zip (take (suc i) ks) (take (suc i) r)) ≡ (list_all is_of_column (zip (take i ks) (take i r)) && is_of_column (f, x))
      go [] r i a b = absurd (cc)
      go (g ∷ ks) [] i a b = absurd (cc)
      go (g ∷ ks) (y ∷ r) zero a b =
          let first : g ≡ f = cc in
          let second : y ≡ x = cc in
          and-true (is_of_column (g, y)) ∙ (λ k. is_of_column (first k, second k))
      go (g ∷ ks) (y ∷ r) (suc i) a b =
          ap (λ c. is_of_column (g, y) && c) (go ks r i a b) ∙ sym (and-assoc (is_of_column (g, y)) (list_all is_of_column (zip (take i ks) (take i r))) (is_of_column (f, x)))

  -- the rows of a stream have no fault exactly if each record is a row, and they are not too many
  module _ (file limit : ℕ) where
    module _ (n : ℕ) (r : Record) (rs : List Record) where
      abbrev wide : Bool
      wide = length r == length layout.schema

      abbrev cells : Result Row ℕ
      cells = all_or_missing (cells_by (cell_under layout.nulls) layout.notations (kinds_of layout.schema) r)

      abbrev all : Bool
      all = list_all (is_row layout) rs

      abbrev Goal : Type 0
      Goal = is_none (rows_after file layout limit n (r ∷ rs)).fault ≡ ((is_row layout r && all) && nat_le (n + suc (length rs)) limit)

      not-row : is_row layout r ≡ false → (fault : ScanFault) → row_of file layout limit (n + 1) r ≡ Err fault → Goal
      not-row e fault f = ap (λ u. is_none u.fault) (after-fault file layout limit n r rs fault f) ∙ sym (ap (λ b. (b && all) && nat_le (n + suc (length rs)) limit) e)

      module _ (rest : n + 1 ≤ limit → is_none (rows_after file layout limit (n + 1) rs).fault ≡ (all && nat_le (n + 1 + length rs) limit)) where
        few : nat_lt limit (n + 1) ≡ false → wide ≡ true → (c : Result Row ℕ) → cells ≡ c → Goal
        few l w (Ok row) c =
            let kept : Row = masked layout.projection row in
            let here : row_of file layout limit (n + 1) r ≡ Ok (kept ∷ []) = rw (l, w, c) refl in
            let is : is_row layout r ≡ true = rw w (sym (all-cells forms r) ∙ ap is_ok c) in
            let room : n + 1 ≤ limit = grind (arith, nat_tests, l) in
            ap (λ u. is_none u.fault) (after-row file layout limit n r rs kept here)
            ∙ rest room
            ∙ ap (λ m. all && nat_le m limit) (let e : n + 1 + length rs ≡ n + suc (length rs) = omega arith in e)
            ∙ sym (ap (λ b. (b && all) && nat_le (n + suc (length rs)) limit) is)
        few l w (Err i) c =
            let here : row_of file layout limit (n + 1) r ≡ Err (BadCell file (n + 1) i) = rw (l, w, c) refl in
            not-row (rw w (sym (all-cells forms r) ∙ ap is_ok c)) (BadCell file (n + 1) i) here

        within : nat_lt limit (n + 1) ≡ false → (b : Bool) → wide ≡ b → Goal
        within l true w = few l w cells refl
        within l false w =
            let here : row_of file layout limit (n + 1) r ≡ Err (Width file (n + 1)) = rw (l, w) refl in
            not-row (ap (λ b. b && list_all is_of_column (zip forms r)) w) (Width file (n + 1)) here

        row-fine : (b : Bool) → nat_lt limit (n + 1) ≡ b → Goal
        row-fine true l =
            let here : row_of file layout limit (n + 1) r ≡ Err (TooLong file) = rw l refl in
            let past : nat_le (n + suc (length rs)) limit ≡ false = grind (arith, nat_tests, l) in
            ap (λ u. is_none u.fault) (after-fault file layout limit n r rs (TooLong file) here)
            ∙ sym (ap (λ b. (is_row layout r && all) && b) past ∙ and-false (is_row layout r && all))
        row-fine false l = within l wide refl

    pub rows-fine : (n : ℕ) (rs : List Record) → n ≤ limit → is_none (rows_after file layout limit n rs).fault ≡ (list_all (is_row layout) rs && nat_le (n + length rs) limit)
    rows-fine n [] h = sym (let e : nat_le (n + 0) limit ≡ true = grind (arith, nat_tests, h) in e)
    rows-fine n (r ∷ rs) h = row-fine n r rs (rows-fine (n + 1) rs) (nat_lt limit (n + 1)) refl

  -- where no record is left, and they are not too many
  pub rows-end : (rs more : List Record) (marks left rest : List Mark) (old now new : Bool) → more ≡ [] → rest ≡ [] → (new && is_flawless rest) ≡ (now && is_flawless left)
      → (old && (list_all (is_row layout) rs && is_flawless marks)) ≡ (now && (list_all (is_row layout) more && is_flawless left)) → length rs ≤ MAX_ROWS
      → new ≡ (old && (are_rows layout rs && is_flawless marks))
  rows-end rs more marks left rest old now new e z h k few =
      let room : nat_le (length rs) MAX_ROWS ≡ true = grind (arith, nat_tests, few) in
      sym (ap (λ b. old && ((list_all (is_row layout) rs && b) && is_flawless marks)) room
      ∙ ap (λ b. old && (b && is_flawless marks)) (and-true (list_all (is_row layout) rs))
      ∙ k
      ∙ ap (λ ms. now && (list_all (is_row layout) ms && is_flawless left)) e
      ∙ sym h
      ∙ ap (λ ms. new && is_flawless ms) z
      ∙ and-true new)

  -- where they are too many
  pub rows-past : (rs : List Record) (marks : List Mark) (old : Bool) → MAX_ROWS + 1 ≤ length rs → (old && (are_rows layout rs && is_flawless marks)) ≡ false
  rows-past rs marks old many =
      let past : nat_le (length rs) MAX_ROWS ≡ false = grind (arith, nat_tests, many) in
      ap (λ b. old && ((list_all (is_row layout) rs && b) && is_flawless marks)) past
      ∙ ap (λ b. old && (b && is_flawless marks)) (and-false (list_all (is_row layout) rs))
      ∙ and-false old

-- ---- files

names-are : (columns : List (String Global × Kind)) (nulls : List (List ℕ)) (notations : List Notation) → names_of (layout_of columns nulls notations).schema ≡ names_in columns
names-are [] nulls notations = refl
names-are (c ∷ columns) nulls notations = ap (λ ns. string_bytes c.0 ∷ ns) (names-are columns nulls notations)

-- a file with a header is clean if that has the names of the columns, and what follows it is rows
module _ (file : ℕ) (columns : List (String Global × Kind)) (nulls : List (List ℕ)) (notations : List Notation) where
  abbrev layout : Layout
  layout = layout_of columns nulls notations

  header-fine : (r : Record) (rs : List Record) (b : Bool) → pointwise same_name (names_of layout.schema) r ≡ b →
      is_none (rows_under_header file layout MAX_ROWS (r ∷ rs)).fault ≡ (pointwise same_name (names_in columns) r && are_rows layout rs)
  header-fine r rs true s = rw s (rows-fine layout file MAX_ROWS 0 rs (omega arith)
      ∙ ap (λ n. list_all (is_row layout) rs && nat_le n MAX_ROWS) (let e : 0 + length rs ≡ length rs = omega arith in e)
      ∙ sym (ap (λ b. b && are_rows layout rs) (ap (λ ns. pointwise same_name ns r) (sym (names-are columns nulls notations)) ∙ s)))
  header-fine r rs false s = rw s (sym (ap (λ b. b && are_rows layout rs) (ap (λ ns. pointwise same_name ns r) (sym (names-are columns nulls notations)) ∙ s)))

  pub clean-is : (bytes : List ℕ) (r : Record) (rs : List Record) → records default_config (strip_bom bytes) ≡ r ∷ rs →
      is_clean file layout bytes ≡ ((pointwise same_name (names_in columns) r && are_rows layout rs) && is_flawless (marks_of bytes))
  clean-is bytes r rs e = ap (λ b. b && is_flawless (marks_of bytes))
      (ap (λ all. is_none (rows_under_header file layout MAX_ROWS all).fault) e ∙ header-fine r rs (pointwise same_name (names_of layout.schema) r) refl)

-- a file without a header is not
pub empty-is : (file : ℕ) (layout : Layout) (bytes : List ℕ) → records default_config (strip_bom bytes) ≡ [] → is_clean file layout bytes ≡ false
empty-is file layout bytes e = ap (λ b. b && is_flawless (marks_of bytes)) (ap (λ all. is_none (rows_under_header file layout MAX_ROWS all).fault) e)

-- a header of another width has other names
pub other-width : (names : List Name) (r : Record) → (length r == length names) ≡ false → pointwise same_name names r ≡ false
other-width [] [] e = absurd (cc)
other-width [] (x ∷ r) e = refl
other-width (n ∷ names) [] e = refl
other-width (n ∷ names) (x ∷ r) e = ap (λ b. same_name n x && b) (other-width names r (let f : (length r == length names) ≡ false = grind (arith, nat_tests, e) in f)) ∙ and-false (same_name n x)

-- one file more, read by its own layout
pub clean-more : (n i : ℕ) (layouts : List Layout) (files : List (List ℕ)) (layout : Layout) (bytes : List ℕ) → slice_get layouts i ≡ Some layout → slice_get files i ≡ Some bytes →
    are_clean_from n (take (i + 1) layouts) (take (i + 1) files) ≡ (are_clean_from n (take i layouts) (take i files) && is_clean (n + i) layout bytes)
clean-more n i layouts files layout bytes a b =
    ap (λ k. are_clean_from n (take k layouts) (take k files)) (let e : i + 1 ≡ suc i = omega arith in e) ∙ go n i layouts files a b
  where
    go : (n i : ℕ) (layouts : List Layout) (files : List (List ℕ)) → slice_get layouts i ≡ Some layout → slice_get files i ≡ Some bytes →
        are_clean_from n (take (suc i) layouts) (take (suc i) files) ≡ (are_clean_from n (take i layouts) (take i files) && is_clean (n + i) layout bytes)
    go n i [] files a b = absurd (cc)
    go n i (l ∷ layouts) [] a b = absurd (cc)
    go n zero (l ∷ layouts) (f ∷ files) a b =
        let first : l ≡ layout = cc in
        let second : f ≡ bytes = cc in
        and-true (is_clean n l f) ∙ (λ k. is_clean n (first k) (second k)) ∙ ap (λ m. is_clean m layout bytes) (let e : n ≡ n + 0 = omega arith in e)
    go n (suc i) (l ∷ layouts) (f ∷ files) a b =
        ap (λ c. is_clean n l f && c) (go (n + 1) i layouts files a b ∙ ap (λ m. are_clean_from (n + 1) (take i layouts) (take i files) && is_clean m layout bytes) (let e : n + 1 + i ≡ n + suc i = omega arith in e))
        ∙ sym (and-assoc (is_clean n l f) (are_clean_from (n + 1) (take i layouts) (take i files)) (is_clean (n + suc i) layout bytes))
