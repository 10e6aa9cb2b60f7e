-- Columns that are functions of the rows, and the rows that stand in them.
use Rattle.std.proofs.Common.{◌≡◌, ℕ, zero, suc, ◌+◌, ◌<◌, ◌≤◌, List, [], ◌∷◌, length, map, drop, replicate, refl, ap, ◌∙◌, arith}
use Rattle.std.specs.Prelude.{All}
use Rattle.std.proofs.Math.Seq.{drop-cons}
use Rattle.std.proofs.lemmas.List.{length-map}
use Rattle.fq_column.specs.declared.cells.Cell.{Cell}
use Rattle.fq_column.specs.Batch.{height_of, frame_of}
use Rattle.fq_column.specs.Column.{Cells}
use Rattle.fq_column.specs.Frame.{Fields, Row, rows_of, value_at}
use Rattle.fq_column.specs.Lists.{zip_with}
use Rattle.fq_column.proofs.BatchLemmas.{HaveHeight, height_of-is, lengths-all, column_at-rows_of}
use Rattle.fq_expr.specs.Outputs.{cells_of_column}

-- ---- the rows of columns that are functions of the rows

replicate-rows : (rs : List Row) → replicate (length rs) (let none : Row = [] in none) ≡ map (λ row. let none : Row = [] in none) rs
replicate-rows [] = refl
replicate-rows (r ∷ rs) = ap (λ l. (let none : Row = [] in none) ∷ l) (replicate-rows rs)

zip_with-maps : {X Y Z R : Type 0} (f : X → Y → Z) (g : R → X) (h : R → Y) (rs : List R) → zip_with f (map g rs) (map h rs) ≡ map (λ r. f (g r) (h r)) rs
zip_with-maps f g h [] = refl
zip_with-maps f g h (r ∷ rs) = ap (λ l. f (g r) (h r) ∷ l) (zip_with-maps f g h rs)

pub rows_of-functions : (hs : List (Row → Cell)) (rs : List Row) → rows_of (length rs) (map (λ h. map h rs) hs) ≡ map (λ row. map (λ h. h row) hs) rs
rows_of-functions [] rs = replicate-rows rs
rows_of-functions (h ∷ hs) rs = ap (zip_with (λ c row. c ∷ row) (map h rs)) (rows_of-functions hs rs) ∙ zip_with-maps (λ c row. c ∷ row) h (λ row. map (λ h. h row) hs) rs

pub height-of-functions : (rs : List Row) (columns : List Cells) (hs : List (Row → Cell)) → map cells_of_column columns ≡ map (λ h. map h rs) hs → HaveHeight (length rs) columns
height-of-functions rs [] hs e = tt
height-of-functions rs (c ∷ columns) [] e = absurd (cc)
height-of-functions rs (c ∷ columns) (h ∷ hs) e = (ap length (let g : c.cells ≡ map h rs = cc in g) ∙ length-map rs h, height-of-functions rs columns hs (cc))

-- the frame that stands in such columns, of which there is one
pub frame-of-functions : (fields : Fields) (rs : List Row) (columns : List Cells) (hs : List (Row → Cell)) → 0 < length columns → map cells_of_column columns ≡ map (λ h. map h rs) hs →
    (frame_of fields columns).rows ≡ map (λ row. map (λ h. h row) hs) rs
frame-of-functions fields rs columns hs some e =
    (λ i. rows_of (height_of-is (length rs) columns (height-of-functions rs columns hs e) some i) (e i)) ∙ rows_of-functions hs rs

pub lengths-of-functions : (rs : List Row) (columns : List Cells) (hs : List (Row → Cell)) → map cells_of_column columns ≡ map (λ h. map h rs) hs → All (λ (c : Cells). length c.cells ≡ height_of columns) columns
lengths-of-functions rs columns hs e = lengths-all (length rs) columns (height-of-functions rs columns hs e)

-- ---- the columns of a batch, as functions of its rows

abbrev pub places : ℕ → ℕ → List (Row → Cell)
places i zero = []
places i (suc n) = value_at i ∷ places (suc i) n

columns-from : (h : ℕ) (cs : List Cells) (d : Cells) → HaveHeight h cs → (i n : ℕ) → i + n ≡ length cs → map cells_of_column (drop i cs) ≡ map (λ f. map f (rows_of h (map cells_of_column cs))) (places i n)
columns-from h cs d t i zero e = ap (map cells_of_column) (nothing cs i (omega (arith, e)))
  where
    nothing : (xs : List Cells) (i : ℕ) → length xs ≤ i → drop i xs ≡ []
    nothing [] zero l = refl
    nothing [] (suc i) l = refl
    nothing (x ∷ xs) zero l = absurd (omega (arith, l))
    nothing (x ∷ xs) (suc i) l = nothing xs i (omega (arith, l))
columns-from h cs d t i (suc n) e =
    ap (map cells_of_column) (drop-cons cs i d (omega (arith, e)))
    ∙ (λ j. column_at-rows_of h cs i d t (omega (arith, e)) j ∷ columns-from h cs d t (suc i) n (omega (arith, e)) j)

pub columns-are-functions : (h : ℕ) (cs : List Cells) (d : Cells) → HaveHeight h cs → map cells_of_column cs ≡ map (λ f. map f (rows_of h (map cells_of_column cs))) (places 0 (length cs))
columns-are-functions h cs d t = columns-from h cs d t 0 (length cs) (omega arith)

-- lists that are equal item by item, under a function of the item and its place
pub map-under : {R X Y : Type 0} (f g : R → X) (w : X → R → Y) (rs : List R) → map f rs ≡ map g rs → map (λ r. w (f r) r) rs ≡ map (λ r. w (g r) r) rs
map-under f g w [] e = refl
map-under f g w (r ∷ rs) e = λ i. w ((let h : f r ≡ g r = cc in h) i) r ∷ map-under f g w rs (cc) i
