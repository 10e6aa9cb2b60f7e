-- Rows that are marked are those at rising places, and columns that are moved are those of their rows.
use Rattle.std.proofs.Common.{◌≡◌, ℕ, zero, suc, ◌+◌, ◌<◌, ◌≤◌, Bool, true, false, List, [], ◌∷◌, ◌++◌, get_or, length, map, replicate, take, refl, sym, ap, ◌∙◌, arith, length-append}
use Rattle.std.proofs.lemmas.List.{length-replicate}
use Rattle.fq_column.specs.Batch.{StandsIn, frame_of, height_of, kind_of_cells}
use Rattle.fq_column.specs.Column.{Cells}
use Rattle.fq_column.specs.Frame.{Fields, Row, column_at, kinds_of, value_at}
use Rattle.fq_column.specs.Lists.{keep}
use Rattle.fq_column.proofs.BatchLemmas.{column_at-rows_of, of_height}
use Rattle.fq_ops.specs.Pairs.{AreMarks, Pair, left_value}
use Rattle.fq_ops.specs.Picks.{columns_of, picks_from}
use Rattle.fq_ops.proofs.AccumulatorLemmas.{keys-more}
use Rattle.fq_ops.proofs.PickLemmas.{cell-transposed}

-- ---- marks that are appended

module _ {X : Type 0} where
  keep-none : (m : ℕ) (xs : List X) → keep (replicate m false) xs ≡ []
  keep-none zero xs = refl
  keep-none (suc m) [] = refl
  keep-none (suc m) (x ∷ xs) = keep-none m xs

  keep-rest : (marks : List Bool) (m : ℕ) (xs : List X) → keep (marks ++ replicate m false) xs ≡ keep marks xs
  keep-rest [] m xs = keep-none m xs
  keep-rest (b ∷ marks) m [] = refl
  keep-rest (true ∷ marks) m (x ∷ xs) = ap (λ l. x ∷ l) (keep-rest marks m xs)
  keep-rest (false ∷ marks) m (x ∷ xs) = keep-rest marks m xs

  keep-one : (m : ℕ) (xs : List X) (d : X) → m < length xs → keep (replicate m false ++ true ∷ []) xs ≡ get_or xs m d ∷ []
  keep-one m [] d low = absurd (omega (arith, low))
  keep-one zero (x ∷ xs) d low = refl
  keep-one (suc m) (x ∷ xs) d low = keep-one m xs d (omega (arith, low))

  keep-next : (marks : List Bool) (m p : ℕ) (xs : List X) (d : X) → p ≡ length marks + m → p < length xs → keep ((marks ++ replicate m false) ++ true ∷ []) xs ≡ keep marks xs ++ get_or xs p d ∷ []
  keep-next [] m p xs d e low = keep-one m xs d (omega (arith, e, low)) ∙ ap (λ k. get_or xs k d ∷ []) (let same : m ≡ p = omega (arith, e) in same)
  keep-next (b ∷ marks) m p [] d e low = absurd (omega (arith, low))
  keep-next (b ∷ marks) m zero (x ∷ xs) d e low = absurd (omega (arith, e))
  keep-next (true ∷ marks) m (suc p) (x ∷ xs) d e low = ap (λ l. x ∷ l) (keep-next marks m p xs d (omega (arith, e)) (omega (arith, low)))
  keep-next (false ∷ marks) m (suc p) (x ∷ xs) d e low = keep-next marks m p xs d (omega (arith, e)) (omega (arith, low))

  keep-le : (marks : List Bool) (xs : List X) → length (keep marks xs) ≤ length xs
  keep-le [] xs = omega arith
  keep-le (b ∷ marks) [] = omega arith
  keep-le (true ∷ marks) (x ∷ xs) = omega (arith, keep-le marks xs)
  keep-le (false ∷ marks) (x ∷ xs) = omega (arith, keep-le marks xs)

  -- where no item is left out, all are as they were
  pub keep-whole : (marks : List Bool) (xs : List X) → length xs ≤ length (keep marks xs) → keep marks xs ≡ xs
  keep-whole [] [] h = refl
  keep-whole [] (x ∷ xs) h = absurd (omega (arith, h))
  keep-whole (b ∷ marks) [] h = refl
  keep-whole (true ∷ marks) (x ∷ xs) h = ap (λ l. x ∷ l) (keep-whole marks xs (omega (arith, h)))
  keep-whole (false ∷ marks) (x ∷ xs) h = absurd (omega (arith, h, keep-le marks xs))

pub marks-more : (marks after : List Bool) (places : List ℕ) (i p m : ℕ) → i < length places → get_or places i 0 ≡ p → p ≡ length marks + m → after ≡ (marks ++ replicate m false) ++ true ∷ [] →
    AreMarks marks (take i places) → AreMarks after (take (i + 1) places)
marks-more marks after places i p m low here gap e so_far =
    let size : length after ≡ p + 1 =
    ap length e ∙ length-append (marks ++ replicate m false) (true ∷ []) ∙ ap (λ n. n + 1) (length-append marks (replicate m false) ∙ ap (λ n. length marks + n) (length-replicate m false) ∙ sym gap) in
    record {
      kept = λ rows within.
          ap (λ ms. keep ms rows) e
          ∙ keep-next marks m p rows [] gap (omega (arith, within, size))
          ∙ (λ j. so_far.kept rows (let few : length marks ≤ length rows = omega (arith, within, size, gap) in few) j ++ get_or rows (sym here j) [] ∷ [])
          ∙ sym (keys-more (λ p. get_or rows p []) places i 0 low);
    }

pub marks-rest : (marks after : List Bool) (m : ℕ) (places : List ℕ) → after ≡ marks ++ replicate m false → AreMarks marks places → AreMarks after places
marks-rest marks after m places e so_far =
    let size : length marks ≤ length after = omega (arith, ap length e, length-append marks (replicate m false)) in
    record { kept = λ rows within. ap (λ ms. keep ms rows) e ∙ keep-rest marks m rows ∙ so_far.kept rows (omega (arith, within, size)) }

-- ---- columns that are moved

-- columns are those of their rows
columns-of_rows : (i : ℕ) (fields : Fields) (columns : List Cells) (rows : List Row) → map kind_of_cells columns ≡ kinds_of fields → ((k : ℕ) (d : Cells) → k < length columns → (get_or columns k d).cells ≡ column_at (i + k) rows) →
    columns ≡ columns_of (picks_from (λ _. true) (λ j row. value_at j row) i fields) rows
columns-of_rows i [] [] rows kinds at = refl
columns-of_rows i [] (c ∷ columns) rows kinds at = absurd (cc)
columns-of_rows i (f ∷ fields) [] rows kinds at = absurd (cc)
columns-of_rows i (f ∷ fields) (c ∷ columns) rows kinds at =
    let kind : c.kind ≡ f.1 = cc in
    let here : c.cells ≡ column_at i rows = at 0 c (omega arith) ∙ ap (λ n. column_at n rows) (let e : i + 0 ≡ i = omega arith in e) in
    let rest = columns-of_rows (suc i) fields columns rows (cc) (λ k d low. at (suc k) d (omega (arith, low)) ∙ ap (λ n. column_at n rows) (let e : i + suc k ≡ suc i + k = omega arith in e)) in
    λ j. record { kind = kind j; cells = here j } ∷ rest j

cells-paired : (rows : List Row) (i : ℕ) (pairs : List Pair) → map (value_at i) (map (λ p. get_or rows p []) (map (λ p. p.0) pairs)) ≡ map (left_value rows i) pairs
cells-paired rows i [] = refl
cells-paired rows i (p ∷ pairs) = λ j. sym (cell-transposed i p.0 rows) j ∷ cells-paired rows i pairs j

columns-paired : (rows : List Row) (pairs : List Pair) (i : ℕ) (fields : Fields) →
    columns_of (picks_from (λ _. true) (λ j row. value_at j row) i fields) (map (λ p. get_or rows p []) (map (λ p. p.0) pairs)) ≡ columns_of (picks_from (λ _. true) (left_value rows) i fields) pairs
columns-paired rows pairs i [] = refl
columns-paired rows pairs i (f ∷ fields) = λ j. record { kind = f.1; cells = cells-paired rows i pairs j } ∷ columns-paired rows pairs (suc i) fields j

-- the columns of a batch whose rows are the left rows of pairs
pub moved-columns : (fields : Fields) (columns : List Cells) (rows : List Row) (pairs : List Pair) → StandsIn fields columns →
    (frame_of fields columns).rows ≡ map (λ p. get_or rows p []) (map (λ p. p.0) pairs) → columns ≡ columns_of (picks_from (λ _. true) (left_value rows) 0 fields) pairs
moved-columns fields columns rows pairs stands e =
    columns-of_rows 0 fields columns (frame_of fields columns).rows stands.kinds
    (λ k d low. column_at-rows_of (height_of columns) columns k d (of_height fields columns stands) low ∙ ap (λ n. column_at n (frame_of fields columns).rows) (let z : k ≡ 0 + k = omega arith in z))
    ∙ ap (λ rs. columns_of (picks_from (λ _. true) (λ j row. value_at j row) 0 fields) rs) e
    ∙ columns-paired rows pairs 0 fields
