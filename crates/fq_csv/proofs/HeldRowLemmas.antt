-- Columns to which rows are added.
use Rattle.std.specs.Prelude.{slice_get, slice_index_or, All, replicate, false}
use Rattle.std.proofs.Common.{◌≡◌, ◌<◌, ◌≤◌, ◌+◌, ◌++◌, ℕ, zero, suc, Bool, true, List, [], ◌∷◌, Option, Some, None, Ok, Err, length, map, take, drop, get_or, set, refl, sym, ap, arith, ◌∙◌}
use Rattle.std.proofs.lemmas.List.{get_or-map, length-append, set-get_or, take_all}
use Rattle.fq_column.specs.declared.cells.Kind.{Kind}
use Rattle.fq_column.specs.declared.cells.Kind.TheVariants as kind
use Rattle.fq_column.specs.declared.cells.Cell.{Cell}
use Rattle.fq_column.specs.Batch.{frame_of, height_of, without_cells}
use Rattle.fq_column.specs.Column.{Cells}
use Rattle.fq_column.specs.Frame.{Fields, Frame, Row, kinds_of, rows_of}
use Rattle.fq_column.specs.Lists.{zip_with, all_or_missing}
use Rattle.fq_column.specs.Masked.{masked, masked_cell}
use Rattle.fq_column.proofs.FaultLemmas.{kinds-without, none-in, rows-without}
use Rattle.fq_column.proofs.ListLemmas.{zip_with-append, length-zip_with}
use Rattle.fq_column.proofs.MaskedLemmas.{length-masked, masked-snoc}
use Rattle.fq_notation.specs.declared.notations.Notation.{Notation}
use Rattle.fq_notation.specs.declared.notations.Notation.TheVariants.{Plain, Decimal, Date}
use Rattle.fq_csv.specs.Field.{cell_under}
use Rattle.fq_csv.specs.File.{Record, cells_by}
use Rattle.fq_csv.specs.Readings.{cell_read, is_kept_by, kind_by, reading_at, reading_of}
use Rattle.fq_csv.specs.Rows.{Holds, first_cells, kinds_in, row_by_kinds, with_cell, with_row}
use Rattle.fq_csv.specs.declared.cells.layouts.Layout.{Layout}
use Rattle.fq_csv.specs.declared.cells.readings.Reading.{Reading}

-- ---- a row, cell by cell

-- the columns after the first cells of a row
abbrev pub columns_after : List Cells → ℕ → List Cell → List Cells
columns_after columns i cells = with_row (take i columns) cells ++ drop i columns

-- the cell, or none, that each field of a record is
abbrev pub options : List (List ℕ) → List Notation → List Cells → Record → List (Option Cell)
options nulls ns columns fs = cells_by (cell_under nulls) ns (kinds_in columns) fs

-- the cells that the first i fields of a record are
abbrev pub AreCells : List (List ℕ) → List Notation → List Cells → Record → ℕ → List Cell → Type 0
AreCells nulls ns columns fs i cells = (length cells ≡ i) × (map Some cells ≡ take i (options nulls ns columns fs))

-- the next column is as it was
pub column-at : (columns : List Cells) (i : ℕ) (cells : List Cell) (d : Cells) → length cells ≡ i → i < length columns → get_or (columns_after columns i cells) i d ≡ get_or columns i d
column-at [] i cells d e h = absurd (omega (arith, h))
column-at (x ∷ xs) zero cells d e h = refl
column-at (x ∷ xs) (suc i) [] d e h = absurd (omega (arith, e))
column-at (x ∷ xs) (suc i) (c ∷ cells) d e h = column-at xs i cells d (omega (arith, e)) (omega (arith, h))

pub columns-step : (columns : List Cells) (i : ℕ) (cells : List Cell) (cell : Cell) (d : Cells) → length cells ≡ i → i < length columns
    → set (columns_after columns i cells) i (with_cell (get_or columns i d) cell) ≡ columns_after columns (suc i) (cells ++ cell ∷ [])
columns-step [] i cells cell d e h = absurd (omega (arith, h))
columns-step (x ∷ xs) zero [] cell d e h = refl
columns-step (x ∷ xs) zero (c ∷ cells) cell d e h = absurd (omega (arith, e))
columns-step (x ∷ xs) (suc i) [] cell d e h = absurd (omega (arith, e))
columns-step (x ∷ xs) (suc i) (c ∷ cells) cell d e h = ap (λ ys. with_cell x c ∷ ys) (columns-step xs i cells cell d (omega (arith, e)) (omega (arith, h)))

-- the cell, or none, that the next field is
pub cell-at : (nulls : List (List ℕ)) (ns : List Notation) (columns : List Cells) (fs : Record) (i : ℕ) (d : Cells) (f : List ℕ) → i < length columns → Some f ≡ slice_get fs i
    → slice_get (options nulls ns columns fs) i ≡ Some (cell_under nulls (get_or columns i d).kind (slice_index_or ns i Plain) f)
cell-at nulls ns [] fs i d f h e = absurd (omega (arith, h))
cell-at nulls [] (x ∷ xs) [] i d f h e = cc e
cell-at nulls (n ∷ ns) (x ∷ xs) [] i d f h e = cc e
cell-at nulls [] (x ∷ xs) (g ∷ fs) zero d f h e = let s : f ≡ g = cc in rw s refl
cell-at nulls (n ∷ ns) (x ∷ xs) (g ∷ fs) zero d f h e = let s : f ≡ g = cc in rw s refl
cell-at nulls [] (x ∷ xs) (g ∷ fs) (suc i) d f h e = cell-at nulls [] xs fs i d f (omega (arith, h)) e
cell-at nulls (n ∷ ns) (x ∷ xs) (g ∷ fs) (suc i) d f h e = cell-at nulls ns xs fs i d f (omega (arith, h)) e

pub cells-step : (os : List (Option Cell)) (i : ℕ) (cells : List Cell) (cell : Cell) → map Some cells ≡ take i os → slice_get os i ≡ Some (Some cell) → map Some (cells ++ cell ∷ []) ≡ take (suc i) os
cells-step [] i cells cell e s = cc s
cells-step (o ∷ os) zero [] cell e s = cc
cells-step (o ∷ os) zero (c ∷ cells) cell e s = cc e
cells-step (o ∷ os) (suc i) [] cell e s = cc e
cells-step (o ∷ os) (suc i) (c ∷ cells) cell e s =
    let first : Some c ≡ o = cc in
    let rest : map Some cells ≡ take i os = cc in
    rw first (ap (λ ys. o ∷ ys) (cells-step os i cells cell rest s))

pub all-there : (cells : List Cell) → all_or_missing (map Some cells) ≡ Ok cells
all-there [] = refl
all-there (c ∷ cells) = rw (all-there cells) refl

pub missing-at : (os : List (Option Cell)) (i : ℕ) (cells : List Cell) → map Some cells ≡ take i os → slice_get os i ≡ Some None → all_or_missing os ≡ Err i
missing-at [] i cells e s = cc s
missing-at (o ∷ os) zero cells e s = let n : o ≡ None = cc in rw n refl
missing-at (o ∷ os) (suc i) [] e s = cc e
missing-at (o ∷ os) (suc i) (c ∷ cells) e s =
    let first : o ≡ Some c = cc in
    let rest : map Some cells ≡ take i os = cc in
    rw (first, missing-at os i cells rest s) refl

-- the whole row
pub row-done : (nulls : List (List ℕ)) (ns : List Notation) (columns : List Cells) (fs : Record) (cells : List Cell) → AreCells nulls ns columns fs (length columns) cells
    → row_by_kinds nulls ns (kinds_in columns) fs ≡ Ok cells
row-done nulls ns columns fs cells h = ap all_or_missing (sym (h.1 ∙ take_all _ _ (short ns columns fs))) ∙ all-there cells
  where
    short : (ms : List Notation) (xs : List Cells) (gs : Record) → length (options nulls ms xs gs) ≤ length xs
    short ms [] gs = omega arith
    short [] (x ∷ xs) [] = omega arith
    short (m ∷ ms) (x ∷ xs) [] = omega arith
    short [] (x ∷ xs) (g ∷ gs) = omega (arith, short [] xs gs)
    short (m ∷ ms) (x ∷ xs) (g ∷ gs) = omega (arith, short ms xs gs)

pub columns-done : (columns : List Cells) (cells : List Cell) → columns_after columns (length columns) cells ≡ with_row columns cells
columns-done [] cells = refl
columns-done (x ∷ xs) [] = gone xs
  where
    gone : (ys : List Cells) → drop (length ys) ys ≡ []
    gone [] = refl
    gone (y ∷ ys) = gone ys
columns-done (x ∷ xs) (c ∷ cells) = ap (λ ys. with_cell x c ∷ ys) (columns-done xs cells)

-- ---- a row taken back

first-with : (xs : List Cell) (c : Cell) → take (length xs) (xs ++ c ∷ []) ≡ xs
first-with [] c = refl
first-with (x ∷ xs) c = ap (λ ys. x ∷ ys) (first-with xs c)

first-all : (xs : List Cell) → take (length xs) xs ≡ xs
first-all [] = refl
first-all (x ∷ xs) = ap (λ ys. x ∷ ys) (first-all xs)

same-column : (x : Cells) (cells : List Cell) → cells ≡ x.cells → ◌≡◌ {A = Cells} (record { kind = x.kind; cells = cells }) x
same-column x cells e = ap (λ ys. let y : Cells = record { kind = x.kind; cells = ys } in y) e

pub taken-back : (h : ℕ) (columns : List Cells) (i : ℕ) (cells : List Cell) → length cells ≡ i → All (λ (c : Cells). length c.cells ≡ h) columns
    → map (first_cells h) (columns_after columns i cells) ≡ columns
taken-back h [] zero cells e a = refl
taken-back h [] (suc i) cells e a = refl
taken-back h (x ∷ xs) zero cells e a =
    ap (λ y. y ∷ map (first_cells h) xs) (same-column x (take h x.cells) (ap (λ n. take n x.cells) (sym (a 0 x (omega arith))) ∙ first-all x.cells))
    ∙ ap (λ ys. x ∷ ys) (taken-back h xs zero [] refl (λ k d l. a (suc k) d (omega (arith, l))))
taken-back h (x ∷ xs) (suc i) [] e a = absurd (omega (arith, e))
taken-back h (x ∷ xs) (suc i) (c ∷ cells) e a =
    ap (λ y. y ∷ map (first_cells h) (columns_after xs i cells)) (same-column x (take h (x.cells ++ c ∷ [])) (ap (λ n. take n (x.cells ++ c ∷ [])) (sym (a 0 x (omega arith))) ∙ first-with x.cells c))
    ∙ ap (λ ys. x ∷ ys) (taken-back h xs i cells (omega (arith, e)) (λ k d l. a (suc k) d (omega (arith, l))))

-- ---- what a reading says of a column

kind-by : (k : Kind) (n : Notation) (b : Bool) → kind_by (reading_of k n b) ≡ k
kind-by k n false = refl
kind-by kind.Whole Plain true = refl
kind-by kind.Whole (Decimal scale) true = refl
kind-by kind.Whole Date true = refl
kind-by kind.Text n true = refl
kind-by kind.Truth n true = refl

kept-by : (k : Kind) (n : Notation) (b : Bool) → is_kept_by (reading_of k n b) ≡ b
kept-by k n false = refl
kept-by kind.Whole Plain true = refl
kept-by kind.Whole (Decimal scale) true = refl
kept-by kind.Whole Date true = refl
kept-by kind.Text n true = refl
kept-by kind.Truth n true = refl

cell-by : (nulls : List (List ℕ)) (k : Kind) (n : Notation) (b : Bool) (f : List ℕ) → cell_read nulls (reading_of k n b) f ≡ cell_under nulls k n f
cell-by nulls k n false f = refl
cell-by nulls kind.Whole Plain true f = refl
cell-by nulls kind.Whole (Decimal scale) true f = refl
cell-by nulls kind.Whole Date true f = refl
cell-by nulls kind.Text n true [] = refl
cell-by nulls kind.Text n true (c ∷ cs) = refl
cell-by nulls kind.Truth n true [] = refl
cell-by nulls kind.Truth n true (c ∷ cs) = refl

-- ---- one field of a record

-- the columns that are being added to, and the cells that the fields were, of which those of the columns that are kept were added
abbrev pub Added : Layout → List Cells → Record → ℕ → List Cells → Type 0
Added layout columns fs i now = (cells : List Cell) × AreCells layout.nulls layout.notations columns fs i cells × (now ≡ columns_after columns i (masked layout.projection cells))

module _ (layout : Layout) (columns : List Cells) (fs : Record) (i : ℕ) (now : List Cells) (a : Added layout columns fs i now) where
  abbrev nulls : List (List ℕ)
  nulls = layout.nulls

  abbrev ns : List Notation
  ns = layout.notations

  abbrev marks : List Bool
  marks = layout.projection

  -- how the fields of the next column are read
  abbrev next : Reading
  next = reading_at (kinds_in columns) layout i

  -- as many cells were added
  size : length (masked marks a.0) ≡ i
  size = length-masked marks a.0 ∙ a.1.0

  same-at : (d : Cells) → i < length columns → get_or now i d ≡ get_or columns i d
  same-at d h = ap (λ ys. get_or ys i d) a.2 ∙ column-at columns i (masked marks a.0) d size h

  next-kind : (d : Cells) → i < length columns → slice_index_or (kinds_in columns) i kind.Whole ≡ (get_or columns i d).kind
  next-kind d h = get_or-map (λ (c : Cells). c.kind) columns i d kind.Whole h

  -- it is read as one of its kind
  pub Added-kind : (d : Cells) → i < length columns → (get_or now i d).kind ≡ kind_by next
  Added-kind d h = ap (λ (c : Cells). c.kind) (same-at d h) ∙ sym (next-kind d h) ∙ sym (kind-by _ (slice_index_or ns i Plain) (slice_index_or marks i true))

  option-at : (d : Cells) (f : List ℕ) → i < length columns → Some f ≡ slice_get fs i → slice_get (options nulls ns columns fs) i ≡ Some (cell_read nulls next f)
  option-at d f h e =
      let n = slice_index_or ns i Plain in
      cell-at nulls ns columns fs i d f h e ∙ ap (λ k. Some (cell_under nulls k n f)) (sym (next-kind d h)) ∙ ap Some (sym (cell-by nulls _ n (slice_index_or marks i true) f))

  pub Added-more : (d new : Cells) (f : List ℕ) (cell : Cell) → i < length columns → Some f ≡ slice_get fs i
      → cell_read nulls next f ≡ Some cell → new ≡ with_cell (get_or now i d) (masked_cell (is_kept_by next) cell) → Added layout columns fs (i + 1) (set now i new)
  Added-more d new f cell h e g n =
      let cells = a.0 in
      let kept = masked marks cells in
      let mark = slice_index_or marks i true in
      let here : Cell = masked_cell mark cell in
      let up : suc i ≡ i + 1 = omega arith in
      let all : kept ++ here ∷ [] ≡ masked marks (cells ++ cell ∷ []) = sym (masked-snoc marks cells cell ∙ ap (λ k. kept ++ masked_cell (slice_index_or marks k true) cell ∷ []) a.1.0) in
      let set_is : set now i new ≡ columns_after columns (suc i) (kept ++ here ∷ []) =
      ap (set now i) (n ∙ ap (λ b. with_cell (get_or now i d) (masked_cell b cell)) (kept-by _ (slice_index_or ns i Plain) mark) ∙ ap (λ y. with_cell y here) (same-at d h)) ∙ ap (λ ys. set ys i (with_cell (get_or columns i d) here)) a.2 ∙ columns-step columns i kept here d size h in
      let count : length (cells ++ cell ∷ []) ≡ i + 1 = simp length-append (omega (arith, a.1.0)) in
      let more = cells-step (options nulls ns columns fs) i cells cell a.1.1 (option-at d f h e ∙ ap Some g) in
      (cells ++ cell ∷ [], (count, more ∙ ap (λ n. take n (options nulls ns columns fs)) up), set_is ∙ (λ j. columns_after columns (up j) (all j)))

  -- a field that is not a cell
  pub Added-bad : (height : ℕ) (d new : Cells) (f : List ℕ) → i < length columns → Some f ≡ slice_get fs i
      → cell_read nulls next f ≡ None → new ≡ get_or now i d → All (λ (c : Cells). length c.cells ≡ height) columns
      → (row_by_kinds nulls ns (kinds_in columns) fs ≡ Err i) × (map (first_cells height) (set now i new) ≡ columns)
  Added-bad height d new f h e g n lengths = (
    missing-at (options nulls ns columns fs) i a.0 a.1.1 (option-at d f h e ∙ ap Some g),
    ap (map (first_cells height)) (ap (set now i) n ∙ set-get_or now i d ∙ a.2) ∙ taken-back height columns i (masked marks a.0) size lengths,
  )

  -- the whole record
  pub Added-done : length columns ≤ i → i ≤ length columns
      → (row : Row) × (row_by_kinds nulls ns (kinds_in columns) fs ≡ Ok row) × (now ≡ with_row columns (masked marks row)) × (length row ≡ length columns)
  Added-done up down =
      let n : i ≡ length columns = omega (arith, up, down) in
      let cells = a.0 in
      let are : AreCells nulls ns columns fs (length columns) cells = (a.1.0 ∙ n, a.1.1 ∙ ap (λ k. take k (options nulls ns columns fs)) n) in
      (cells, row-done nulls ns columns fs cells are, a.2 ∙ ap (λ k. columns_after columns k (masked marks cells)) n ∙ columns-done columns (masked marks cells), a.1.0 ∙ n)

-- ---- the rows that stand in columns

length-rows_of : (n : ℕ) (columns : List Cells) → All (λ (c : Cells). length c.cells ≡ n) columns → length (rows_of n (map (λ (c : Cells). c.cells) columns)) ≡ n
length-rows_of n [] a = copies n
  where
    copies : (m : ℕ) → let none : Row = [] in length (replicate m none) ≡ m
    copies zero = refl
    copies (suc m) = ap suc (copies m)
length-rows_of n (c ∷ cs) a =
    let rest = length-rows_of n cs (λ k d l. a (suc k) d (omega (arith, l))) in
    let here : length c.cells ≡ n = a 0 c (omega arith) in
    length-zip_with (λ x row. x ∷ row) c.cells (rows_of n (map (λ (c : Cells). c.cells) cs)) (rest ∙ sym here) ∙ here

one-more : (n : ℕ) → let none : Row = [] in replicate (suc n) none ≡ replicate n none ++ none ∷ []
one-more zero = refl
one-more (suc n) = ap (λ ys. [] ∷ ys) (one-more n)

rows_of-with_row : (n : ℕ) (columns : List Cells) (row : Row) → length row ≡ length columns → All (λ (c : Cells). length c.cells ≡ n) columns
    → rows_of (suc n) (map (λ (c : Cells). c.cells) (with_row columns row)) ≡ rows_of n (map (λ (c : Cells). c.cells) columns) ++ row ∷ []
rows_of-with_row n [] [] e a = one-more n
rows_of-with_row n [] (x ∷ row) e a = absurd (omega (arith, e))
rows_of-with_row n (c ∷ cs) [] e a = absurd (omega (arith, e))
rows_of-with_row n (c ∷ cs) (x ∷ row) e a =
    let more : All (λ (c : Cells). length c.cells ≡ n) cs = λ k d l. a (suc k) d (omega (arith, l)) in
    let here : length c.cells ≡ n = a 0 c (omega arith) in
    ap (zip_with (λ y r. y ∷ r) (c.cells ++ x ∷ [])) (rows_of-with_row n cs row (omega (arith, e)) more)
    ∙ zip_with-append (λ y r. y ∷ r) c.cells (x ∷ []) (rows_of n (map (λ (c : Cells). c.cells) cs)) (row ∷ []) (length-rows_of n cs more ∙ sym here)

kinds-with_row : (columns : List Cells) (row : Row) → length row ≡ length columns → kinds_in (with_row columns row) ≡ kinds_in columns
kinds-with_row [] row e = refl
kinds-with_row (c ∷ cs) [] e = absurd (omega (arith, e))
kinds-with_row (c ∷ cs) (x ∷ row) e = ap (λ ks. c.kind ∷ ks) (kinds-with_row cs row (omega (arith, e)))

lengths-with_row : (n : ℕ) (columns : List Cells) (row : Row) → All (λ (c : Cells). length c.cells ≡ n) columns → All (λ (c : Cells). length c.cells ≡ suc n) (with_row columns row)
lengths-with_row n [] row a k d l = absurd (omega (arith, l))
lengths-with_row n (c ∷ cs) [] a k d l = absurd (omega (arith, l))
lengths-with_row n (c ∷ cs) (x ∷ row) a zero d l = let h : length c.cells ≡ n = a 0 c (omega arith) in simp length-append (omega (arith, h))
lengths-with_row n (c ∷ cs) (x ∷ row) a (suc k) d l = lengths-with_row n cs row (λ j e m. a (suc j) e (omega (arith, m))) k d (omega (arith, l))

-- one more row
pub Holds-more : (kinds : List Kind) (columns : List Cells) (rows : List Row) (row : Row) → Holds kinds columns rows → length row ≡ length columns → Holds kinds (with_row columns row) (rows ++ row ∷ [])
Holds-more kinds columns rows row h e =
    let n : length (rows ++ row ∷ []) ≡ suc (length rows) = simp length-append (omega arith) in
    record {
      same_kinds = kinds-with_row columns row e ∙ h.same_kinds;
      lengths = rw n (lengths-with_row (length rows) columns row h.lengths);
      same_rows = rw n (rows_of-with_row (length rows) columns row e h.lengths ∙ ap (λ rs. rs ++ row ∷ []) h.same_rows);
    }

-- ---- columns with no cell

pub no-item : {X : Type 0} (xs : List X) → length xs ≡ 0 → xs ≡ []
no-item [] e = refl
no-item (x ∷ xs) e = absurd (omega (arith, e))

pub Holds-none : (kinds : List Kind) → Holds kinds (map without_cells kinds) []
Holds-none kinds = record {
  same_kinds = kinds-without kinds;
  lengths = none-in kinds;
  same_rows = rows-without kinds 0 refl;
}

-- ---- columns that hold rows are a batch

height : (kinds : List Kind) (columns : List Cells) (rows : List Row) → 0 < length columns → Holds kinds columns rows → height_of columns ≡ length rows
height kinds [] rows h held = absurd (omega (arith, h))
height kinds (c ∷ cs) rows h held = held.lengths 0 c (omega arith)

pub frame-held : (fields : Fields) (columns : List Cells) (rows : List Row) → 0 < length columns → Holds (kinds_of fields) columns rows → ◌≡◌ {A = Frame} (frame_of fields columns) (record { fields = fields; rows = rows })
frame-held fields columns rows h held =
    ap (λ rs. let f : Frame = record { fields = fields; rows = rs } in f) (ap (λ n. rows_of n (map (λ (c : Cells). c.cells) columns)) (height (kinds_of fields) columns rows h held) ∙ held.same_rows)

pub one-length : (kinds : List Kind) (columns : List Cells) (rows : List Row) → 0 < length columns → Holds kinds columns rows → All (λ (c : Cells). length c.cells ≡ height_of columns) columns
one-length kinds columns rows h held = let same = sym (height kinds columns rows h held) in λ i d below. held.lengths i d below ∙ same
