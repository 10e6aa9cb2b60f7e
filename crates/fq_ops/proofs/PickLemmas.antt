-- Columns by what each takes of an item make a batch of the items' rows.
use Rattle.std.proofs.Common.{◌≡◌, ℕ, zero, suc, ◌+◌, ◌<◌, Bool, true, false, cond, List, [], ◌∷◌, ◌++◌, map, filter, length, zip, replicate, Some, refl, sym, ap, ◌∙◌, arith, if◌then◌else◌, get_or, drop, take, length-take, append-nil, append_assoc}
use Rattle.std.specs.Prelude.{All, slice_get}
use Rattle.std.proofs.lemmas.List.{length-map, map-append}
use Rattle.std.proofs.lemmas.Option.{slice_get_within}
use Rattle.fq_column.specs.declared.cells.Cell.{Cell}
use Rattle.fq_column.specs.declared.cells.Cell.TheVariants.{Null}
use Rattle.fq_column.specs.declared.cells.Kind.{Kind}
use Rattle.fq_column.specs.Batch.{frame_of, height_of, kind_of_cells}
use Rattle.fq_column.specs.Column.{Cells}
use Rattle.fq_column.specs.Frame.{Field, Fields, Name, Row, kinds_of, names_of, rows_of, value_at, column_at}
use Rattle.fq_column.specs.Lists.{zip_with}
use Rattle.fq_ops.specs.Picks.{Pick, column_of, columns_of, row_of, picks_from}
use Rattle.fq_ops.proofs.JudgedFieldLemmas.{take-more}
use Rattle.fq_ops.proofs.RefusalLemmas.{map-map}

abbrev pub kinds : {X : Type 0} → List (Pick X) → List Kind
kinds picks = map (λ p. p.0) picks

-- whether columns have one length
abbrev pub OneLength : List Cells → Type 0
OneLength columns = All (λ (c : Cells). length c.cells ≡ height_of columns) columns

module _ {X : Type 0} (xs : List X) where
  height-is : (picks : List (Pick X)) → 0 < length picks → height_of (columns_of picks xs) ≡ length xs
  height-is [] some = absurd (omega (arith, some))
  height-is (p ∷ picks) some = length-map xs p.1

  pub kinds-of-picks : (picks : List (Pick X)) → map kind_of_cells (columns_of picks xs) ≡ kinds picks
  kinds-of-picks [] = refl
  kinds-of-picks (p ∷ picks) = ap (λ ks. p.0 ∷ ks) (kinds-of-picks picks)

  one-for-each : (picks : List (Pick X)) → All (λ (c : Cells). length c.cells ≡ length xs) (columns_of picks xs)
  one-for-each [] i d below = absurd (omega (arith, below))
  one-for-each (p ∷ picks) zero d below = length-map xs p.1
  one-for-each (p ∷ picks) (suc i) d below = one-for-each picks i d (omega (arith, below))

  pub lengths-picked : (picks : List (Pick X)) → 0 < length picks → OneLength (columns_of picks xs)
  lengths-picked picks some = let same = sym (height-is picks some) in λ i d below. one-for-each picks i d below ∙ same

  zip-rows : (f : X → Cell) (g : X → Row) (ys : List X) → zip_with (λ c row. c ∷ row) (map f ys) (map g ys) ≡ map (λ x. f x ∷ g x) ys
  zip-rows f g [] = refl
  zip-rows f g (y ∷ ys) = ap (λ l. (f y ∷ g y) ∷ l) (zip-rows f g ys)

  no-columns : (ys : List X) → replicate (length ys) [] ≡ map (λ (x : X). let none : Row = [] in none) ys
  no-columns [] = refl
  no-columns (y ∷ ys) = ap (λ (l : List Row). [] ∷ l) (no-columns ys)

  rows-picked : (picks : List (Pick X)) → rows_of (length xs) (map (λ (c : Cells). c.cells) (columns_of picks xs)) ≡ map (row_of picks) xs
  rows-picked [] = no-columns xs
  rows-picked (p ∷ picks) = ap (zip_with (λ c row. c ∷ row) (map p.1 xs)) (rows-picked picks) ∙ zip-rows p.1 (row_of picks) xs

  pub frame-picked : (fields : Fields) (picks : List (Pick X)) → 0 < length picks → (frame_of fields (columns_of picks xs)).rows ≡ map (row_of picks) xs
  frame-picked fields picks some = ap (λ h. rows_of h (map (λ (c : Cells). c.cells) (columns_of picks xs))) (height-is picks some) ∙ rows-picked picks

-- ---- one field more

module _ {X : Type 0} (wanted : Name → Bool) (value : ℕ → X → Cell) where
  abbrev pub pick_more : Field → ℕ → List (Pick X)
  pick_more f i = cond (wanted f.0) ((f.1, value i) ∷ []) []

  picks-push : (i : ℕ) (fields : Fields) (f : Field) → picks_from wanted value i (fields ++ f ∷ []) ≡ picks_from wanted value i fields ++ pick_more f (i + length fields)
  picks-push i [] f = by (wanted f.0) refl
    where
      by : (b : Bool) → wanted f.0 ≡ b → picks_from wanted value i (f ∷ []) ≡ pick_more f (i + 0)
      by true e = ap (λ b. if b then (f.1, value i) ∷ [] else []) e ∙ ap (λ j. (f.1, value j) ∷ []) (let z : i ≡ i + 0 = omega arith in z) ∙ sym (ap (λ b. cond b ((f.1, value (i + 0)) ∷ []) []) e)
      by false e = ap (λ b. if b then (f.1, value i) ∷ [] else []) e ∙ sym (ap (λ b. cond b ((f.1, value (i + 0)) ∷ []) []) e)
  picks-push i (g ∷ fields) f = by (wanted g.0) refl (picks-push (suc i) fields f ∙ ap (λ j. picks_from wanted value (suc i) fields ++ pick_more f j) (let e : suc i + length fields ≡ i + suc (length fields) = omega arith in e))
    where
      by : (b : Bool) → wanted g.0 ≡ b → picks_from wanted value (suc i) (fields ++ f ∷ []) ≡ picks_from wanted value (suc i) fields ++ pick_more f (i + suc (length fields)) →
          picks_from wanted value i ((g ∷ fields) ++ f ∷ []) ≡ picks_from wanted value i (g ∷ fields) ++ pick_more f (i + suc (length fields))
      by true e rest = ap (λ b. if b then (g.1, value i) ∷ picks_from wanted value (suc i) (fields ++ f ∷ []) else picks_from wanted value (suc i) (fields ++ f ∷ [])) e
          ∙ ap (λ l. (g.1, value i) ∷ l) rest ∙ sym (ap (λ b. (if b then (g.1, value i) ∷ picks_from wanted value (suc i) fields else picks_from wanted value (suc i) fields) ++ pick_more f (i + suc (length fields))) e)
      by false e rest = ap (λ b. if b then (g.1, value i) ∷ picks_from wanted value (suc i) (fields ++ f ∷ []) else picks_from wanted value (suc i) (fields ++ f ∷ [])) e
          ∙ rest ∙ sym (ap (λ b. (if b then (g.1, value i) ∷ picks_from wanted value (suc i) fields else picks_from wanted value (suc i) fields) ++ pick_more f (i + suc (length fields))) e)

  pub picks-more : (fields : Fields) (i : ℕ) (f : Field) → slice_get fields i ≡ Some f → picks_from wanted value 0 (take (i + 1) fields) ≡ picks_from wanted value 0 (take i fields) ++ pick_more f i
  picks-more fields i f e =
      ap (picks_from wanted value 0) (take-more fields i f e) ∙ picks-push 0 (take i fields) f
      ∙ ap (λ j. picks_from wanted value 0 (take i fields) ++ pick_more f j) (let z : 0 + length (take i fields) ≡ i = omega (arith, length-take i fields, slice_get_within fields i f e) in z)

  pub kinds-picked : (i : ℕ) (fields : Fields) → kinds (picks_from wanted value i fields) ≡ map (λ (f : Field). f.1) (filter (λ (f : Field). wanted f.0) fields)
  kinds-picked i [] = refl
  kinds-picked i (f ∷ fields) = by (wanted f.0) refl (kinds-picked (suc i) fields)
    where
      by : (b : Bool) → wanted f.0 ≡ b → kinds (picks_from wanted value (suc i) fields) ≡ map (λ (f : Field). f.1) (filter (λ (f : Field). wanted f.0) fields) →
          kinds (picks_from wanted value i (f ∷ fields)) ≡ map (λ (f : Field). f.1) (filter (λ (f : Field). wanted f.0) (f ∷ fields))
      by true e rest = ap (λ b. kinds (if b then (f.1, value i) ∷ picks_from wanted value (suc i) fields else picks_from wanted value (suc i) fields)) e ∙ ap (λ l. f.1 ∷ l) rest
          ∙ sym (ap (λ b. map (λ (f : Field). f.1) (cond b (f ∷ filter (λ (f : Field). wanted f.0) fields) (filter (λ (f : Field). wanted f.0) fields))) e)
      by false e rest = ap (λ b. kinds (if b then (f.1, value i) ∷ picks_from wanted value (suc i) fields else picks_from wanted value (suc i) fields)) e ∙ rest
          ∙ sym (ap (λ b. map (λ (f : Field). f.1) (cond b (f ∷ filter (λ (f : Field). wanted f.0) fields) (filter (λ (f : Field). wanted f.0) fields))) e)

  -- what an item has in the picked columns, if the value at each place is that of a row
  pub row-picked : (x : X) (row : Row) → ((i : ℕ) → value i x ≡ value_at i row) → (i : ℕ) (fields : Fields) (rest : Row) → drop i row ≡ rest → length rest ≡ length fields →
      row_of (picks_from wanted value i fields) x ≡ map (λ (p : Name × Cell). p.1) (filter (λ (p : Name × Cell). wanted p.0) (zip (names_of fields) rest))
  row-picked x row at i [] rest d e = refl
  row-picked x row at i (f ∷ fields) [] d e = absurd (omega (arith, e))
  row-picked x row at i (f ∷ fields) (c ∷ rest) d e = by (wanted f.0) refl (row-picked x row at (suc i) fields rest (next i row d) (omega (arith, e)))
    where
      next : (j : ℕ) (r : Row) → drop j r ≡ c ∷ rest → drop (suc j) r ≡ rest
      next zero [] d = absurd (cc)
      next zero (y ∷ r) d = cc
      next (suc j) [] d = absurd (cc)
      next (suc j) (y ∷ r) d = next j r d

      here : (j : ℕ) (r : Row) → drop j r ≡ c ∷ rest → value_at j r ≡ c
      here zero [] d = absurd (cc)
      here zero (y ∷ r) d = cc
      here (suc j) [] d = absurd (cc)
      here (suc j) (y ∷ r) d = here j r d

      by : (b : Bool) → wanted f.0 ≡ b → row_of (picks_from wanted value (suc i) fields) x ≡ map (λ (p : Name × Cell). p.1) (filter (λ (p : Name × Cell). wanted p.0) (zip (names_of fields) rest)) →
          row_of (picks_from wanted value i (f ∷ fields)) x ≡ map (λ (p : Name × Cell). p.1) (filter (λ (p : Name × Cell). wanted p.0) (zip (names_of (f ∷ fields)) (c ∷ rest)))
      by true e tail = ap (λ b. row_of (if b then (f.1, value i) ∷ picks_from wanted value (suc i) fields else picks_from wanted value (suc i) fields) x) e
          ∙ (λ k. (at i ∙ here i row d) k ∷ tail k)
          ∙ sym (ap (λ b. map (λ (p : Name × Cell). p.1) (cond b ((f.0, c) ∷ filter (λ (p : Name × Cell). wanted p.0) (zip (names_of fields) rest)) (filter (λ (p : Name × Cell). wanted p.0) (zip (names_of fields) rest)))) e)
      by false e tail = ap (λ b. row_of (if b then (f.1, value i) ∷ picks_from wanted value (suc i) fields else picks_from wanted value (suc i) fields) x) e
          ∙ tail
          ∙ sym (ap (λ b. map (λ (p : Name × Cell). p.1) (cond b ((f.0, c) ∷ filter (λ (p : Name × Cell). wanted p.0) (zip (names_of fields) rest)) (filter (λ (p : Name × Cell). wanted p.0) (zip (names_of fields) rest)))) e)

  -- an item that is null in each picked column
  pub nulls-picked : (x : X) → ((i : ℕ) → value i x ≡ Null) → (i : ℕ) (fields : Fields) → row_of (picks_from wanted value i fields) x ≡ replicate (length (filter (λ (f : Field). wanted f.0) fields)) Null
  nulls-picked x none i [] = refl
  nulls-picked x none i (f ∷ fields) = by (wanted f.0) refl (nulls-picked x none (suc i) fields)
    where
      by : (b : Bool) → wanted f.0 ≡ b → row_of (picks_from wanted value (suc i) fields) x ≡ replicate (length (filter (λ (f : Field). wanted f.0) fields)) Null →
          row_of (picks_from wanted value i (f ∷ fields)) x ≡ replicate (length (filter (λ (f : Field). wanted f.0) (f ∷ fields))) Null
      by true e tail = ap (λ b. row_of (if b then (f.1, value i) ∷ picks_from wanted value (suc i) fields else picks_from wanted value (suc i) fields) x) e
          ∙ (λ k. none i k ∷ tail k)
          ∙ sym (ap (λ b. replicate (length (cond b (f ∷ filter (λ (f : Field). wanted f.0) fields) (filter (λ (f : Field). wanted f.0) fields))) Null) e)
      by false e tail = ap (λ b. row_of (if b then (f.1, value i) ∷ picks_from wanted value (suc i) fields else picks_from wanted value (suc i) fields) x) e
          ∙ tail
          ∙ sym (ap (λ b. replicate (length (cond b (f ∷ filter (λ (f : Field). wanted f.0) fields) (filter (λ (f : Field). wanted f.0) fields))) Null) e)

-- a cell of a column is that of its row
pub cell-transposed : (i m : ℕ) (rows : List Row) → value_at m (column_at i rows) ≡ value_at i (get_or rows m [])
cell-transposed zero zero [] = refl
cell-transposed zero (suc m) [] = refl
cell-transposed (suc i) zero [] = refl
cell-transposed (suc i) (suc m) [] = refl
cell-transposed i zero (r ∷ rows) = refl
cell-transposed i (suc m) (r ∷ rows) = cell-transposed i m rows

-- ---- columns that are gathered

pub field-of_kind : (fs : Fields) (i : ℕ) (k : Kind) → slice_get (kinds_of fs) i ≡ Some k → (f : Field) × (slice_get fs i ≡ Some f) × (f.1 ≡ k)
field-of_kind [] i k e = absurd (cc)
field-of_kind (f ∷ fs) zero k e = (f, refl, cc)
field-of_kind (f ∷ fs) (suc i) k e = field-of_kind fs i k e

-- a column of cells that are found by what they take of items
pub column-by : {X Y : Type 0} (column : Cells) (k : Kind) (cells : List Cell) (at : List Cell → Y → Cell) (part : X → Y) (xs : List X) (places : List Y) → column.kind ≡ k → column.cells ≡ cells → places ≡ map part xs →
    (let c : Cells = record { kind = column.kind; cells = map (at column.cells) places } in c) ≡ column_of xs (k, λ x. at cells (part x))
column-by column k cells at part xs places e g h = λ i. record { kind = e i; cells = (ap (map (at column.cells)) h ∙ ap (λ cs. map (at cs) (map part xs)) g ∙ map-map (at cells) part xs) i }

pub columns-push : {X : Type 0} (picks : List (Pick X)) (p : Pick X) (xs : List X) → columns_of (picks ++ p ∷ []) xs ≡ columns_of picks xs ++ column_of xs p ∷ []
columns-push picks p xs = map-append (column_of xs) picks (p ∷ [])

module _ {X : Type 0} (wanted : Name → Bool) (value : ℕ → X → Cell) (before : List (Pick X)) (fields : Fields) (i : ℕ) (f : Field) (at : slice_get fields i ≡ Some f) (xs : List X) where
  abbrev so_far : ℕ → List (Pick X)
  so_far n = before ++ picks_from wanted value 0 (take n fields)

  so_far-more : so_far (i + 1) ≡ so_far i ++ pick_more wanted value f i
  so_far-more = ap (λ l. before ++ l) (picks-more wanted value fields i f at) ∙ sym (append_assoc before (picks_from wanted value 0 (take i fields)) (pick_more wanted value f i))

  pub gathered-more : (columns : List Cells) (column : Cells) → columns ≡ columns_of (so_far i) xs → wanted f.0 ≡ true → column ≡ column_of xs (f.1, value i) → columns ++ column ∷ [] ≡ columns_of (so_far (i + 1)) xs
  gathered-more columns column e w g =
      (λ k. e k ++ g k ∷ []) ∙ sym (columns-push (so_far i) (f.1, value i) xs)
      ∙ sym (ap (λ l. columns_of l xs) (so_far-more ∙ ap (λ b. so_far i ++ cond b ((f.1, value i) ∷ []) []) w))

  pub gathered-same : (columns : List Cells) → columns ≡ columns_of (so_far i) xs → wanted f.0 ≡ false → columns ≡ columns_of (so_far (i + 1)) xs
  gathered-same columns e w = e ∙ sym (ap (λ l. columns_of l xs) (so_far-more ∙ ap (λ b. so_far i ++ cond b ((f.1, value i) ∷ []) []) w ∙ append-nil (so_far i)))

pub field-of_name : (fs : Fields) (i : ℕ) (n : Name) → slice_get (names_of fs) i ≡ Some n → (f : Field) × (slice_get fs i ≡ Some f) × (f.0 ≡ n)
field-of_name [] i n e = absurd (cc)
field-of_name (f ∷ fs) zero n e = (f, refl, cc)
field-of_name (f ∷ fs) (suc i) n e = field-of_name fs i n e
