-- The rows that stand in columns, under the changes of a batch.
use Rattle.std.proofs.Common.{◌≡◌, ℕ, zero, suc, ◌+◌, ◌<◌, ◌≤◌, min, Bool, true, false, List, [], ◌∷◌, ◌++◌, length, take, drop, map, refl, ap, sym, ◌∙◌, arith, get_or, set, replicate, length-take, length-append, Some, ◌&&◌, subst}
use Rattle.std.specs.Prelude.{slice_get, All}
use Rattle.std.specs.List.{AllPass, list_all}
use Rattle.std.specs.Bool.{◌==◌}
use Rattle.std.proofs.lemmas.Bool.Decides.{Decides-eqb}
use Rattle.std.proofs.lemmas.List.Sums.{AllPass-from_list_all, list_all-from_AllPass}
use Rattle.std.proofs.Math.Seq.{take-append_seam}
use Rattle.std.proofs.lemmas.List.{length-map}
use Rattle.fq_column.specs.declared.cells.Cell.{Cell}
use Rattle.fq_column.specs.declared.cells.Kind.{Kind}
use Rattle.std.specs.Cmp.{first_so, second_so}
use Rattle.std.specs.Cmp.Lexicographic.{pointwise}
use Rattle.fq_column.specs.Batch.{has_kind_of, height_of, StandsIn, with_cells, joined_cells, kind_of_cells}
use Rattle.fq_column.specs.Cell.{has_kind, same_kind}
use Rattle.fq_column.specs.Column.{Cells, AreOfKind}
use Rattle.fq_column.specs.Frame.{Field, Fields, Row, rows_of, kinds_of, row_fits, value_at, column_at}
use Rattle.fq_column.specs.Lists.{zip_with, keep}
use Rattle.fq_column.specs.SchemaLaws.{same_kind_decides}
use Rattle.fq_column.proofs.ListLemmas.{length-zip_with, take-zip_with, keep-zip_with, zip_with-append, length-keep, slice_get-zip_with}

abbrev pub cells : Cells → List Cell
cells c = c.cells

-- ---- columns of one height

abbrev pub HaveHeight : ℕ → List Cells → Type 0
HaveHeight h [] = Unit {0}
HaveHeight h (c ∷ cs) = (length c.cells ≡ h) × HaveHeight h cs

pub have-height : (h : ℕ) (cs : List Cells) → All (λ (c : Cells). length c.cells ≡ h) cs → HaveHeight h cs
have-height h [] all = tt
have-height h (c ∷ cs) all = (all 0 c (omega arith), have-height h cs (λ k d below. all (suc k) d (omega (arith, below))))

pub of_height : (fields : Fields) (cs : List Cells) → StandsIn fields cs → HaveHeight (height_of cs) cs
of_height fields cs s = have-height (height_of cs) cs s.lengths

all-height : (h : ℕ) (cs : List Cells) → HaveHeight h cs → All (λ (c : Cells). length c.cells ≡ h) cs
all-height h [] t k d below = absurd (omega (arith, below))
all-height h (c ∷ cs) t zero d below = t.0
all-height h (c ∷ cs) t (suc k) d below = all-height h cs t.1 k d (omega (arith, below))

-- the height of the first column, and so of all
pub height_of-is : (h : ℕ) (cs : List Cells) → HaveHeight h cs → 0 < length cs → height_of cs ≡ h
height_of-is h [] t some = absurd (omega (arith, some))
height_of-is h (c ∷ cs) t some = t.0

pub lengths-all : (h : ℕ) (cs : List Cells) → HaveHeight h cs → All (λ (c : Cells). length c.cells ≡ height_of cs) cs
lengths-all h [] t = λ k d below. absurd (omega (arith, below))
lengths-all h (c ∷ cs) t = all-height (length c.cells) (c ∷ cs) (refl, subst (λ n. HaveHeight n cs) (sym t.0) t.1)

length-copies : {X : Type 0} (n : ℕ) (x : X) → length (replicate n x) ≡ n
length-copies zero x = refl
length-copies (suc n) x = ap suc (length-copies n x)

pub length-rows_of : (h : ℕ) (cs : List Cells) → HaveHeight h cs → length (rows_of h (map cells cs)) ≡ h
length-rows_of h [] t = length-copies h []
length-rows_of h (c ∷ cs) t = length-zip_with (λ x row. x ∷ row) c.cells (rows_of h (map cells cs)) (length-rows_of h cs t.1 ∙ sym t.0) ∙ t.0

pub length-at : (h : ℕ) (cs : List Cells) (i : ℕ) (d : Cells) → HaveHeight h cs → i < length cs → length (get_or cs i d).cells ≡ h
length-at h cs i d t below = all-height h cs t i d below

-- ---- one column of the rows

heads : (xs : List Cell) (rows : List Row) → length rows ≡ length xs → map (value_at 0) (zip_with (λ x row. x ∷ row) xs rows) ≡ xs
heads [] rows e = refl
heads (x ∷ xs) [] e = absurd (omega (arith, e))
heads (x ∷ xs) (row ∷ rows) e = ap (λ ys. x ∷ ys) (heads xs rows (omega (arith, e)))

tails : (i : ℕ) (xs : List Cell) (rows : List Row) → length rows ≡ length xs → map (value_at (suc i)) (zip_with (λ x row. x ∷ row) xs rows) ≡ map (value_at i) rows
tails i [] [] e = refl
tails i [] (row ∷ rows) e = absurd (omega (arith, e))
tails i (x ∷ xs) [] e = refl
tails i (x ∷ xs) (row ∷ rows) e = ap (λ ys. value_at i row ∷ ys) (tails i xs rows (omega (arith, e)))

-- column i of the rows is column i
pub column_at-rows_of : (h : ℕ) (cs : List Cells) (i : ℕ) (d : Cells) → HaveHeight h cs → i < length cs → (get_or cs i d).cells ≡ column_at i (rows_of h (map cells cs))
column_at-rows_of h [] i d t below = absurd (omega (arith, below))
column_at-rows_of h (c ∷ cs) zero d t below = sym (heads c.cells (rows_of h (map cells cs)) (length-rows_of h cs t.1 ∙ sym t.0))
column_at-rows_of h (c ∷ cs) (suc i) d t below =
    column_at-rows_of h cs i d t.1 (omega (arith, below)) ∙ sym (tails i c.cells (rows_of h (map cells cs)) (length-rows_of h cs t.1 ∙ sym t.0))

-- ---- rows that fit their fields

AllPass-copies : {X : Type 0} (p : X → Bool) (n : ℕ) (x : X) → p x ≡ true → AllPass p (replicate n x)
AllPass-copies p zero x e k d below = absurd (omega (arith, below))
AllPass-copies p (suc n) x e zero d below = e
AllPass-copies p (suc n) x e (suc k) d below = AllPass-copies p n x e k d (omega (arith, below))

both : (a b : Bool) → a ≡ true → b ≡ true → (a && b) ≡ true
both a b e f = (λ i. e i && b) ∙ f

AllPass-rows : (k : Kind) (fields : Fields) (f : Field) (xs : List Cell) (rows : List Row) → f.1 ≡ k → AllPass (has_kind k) xs → AllPass (row_fits fields) rows → AllPass (row_fits (f ∷ fields)) (zip_with (λ x row. x ∷ row) xs rows)
AllPass-rows k fields f [] rows e p q i d below = absurd (omega (arith, below))
AllPass-rows k fields f (x ∷ xs) [] e p q i d below = absurd (omega (arith, below))
AllPass-rows k fields f (x ∷ xs) (row ∷ rows) e p q zero d below =
    both (has_kind f.1 x) (row_fits fields row) (ap (λ k. has_kind k x) e ∙ p 0 x (omega arith)) (q 0 row (omega arith))
AllPass-rows k fields f (x ∷ xs) (row ∷ rows) e p q (suc i) d below =
    AllPass-rows k fields f xs rows e (λ j y lt. p (suc j) y (omega (arith, lt))) (λ j y lt. q (suc j) y (omega (arith, lt))) i d (omega (arith, below))

pub rows-fit : (h : ℕ) (fields : Fields) (cs : List Cells) → map kind_of_cells cs ≡ kinds_of fields → All AreOfKind cs → AllPass (row_fits fields) (rows_of h (map cells cs))
rows-fit h [] [] e all = AllPass-copies (row_fits []) h [] refl
rows-fit h [] (c ∷ cs) e all = absurd (cc)
rows-fit h (f ∷ fields) [] e all = absurd (cc)
rows-fit h (f ∷ fields) (c ∷ cs) e all =
    AllPass-rows c.kind fields f c.cells (rows_of h (map cells cs)) (cc) (all 0 c (omega arith)) (rows-fit h fields cs (cc) (λ k d below. all (suc k) d (omega (arith, below))))

-- ---- a change of each column

abbrev pub changed : (List Cell → List Cell) → Cells → Cells
changed f c = with_cells c (f c.cells)

map-cells-changed : (f : List Cell → List Cell) (cs : List Cells) → map cells (map (changed f) cs) ≡ map f (map cells cs)
map-cells-changed f [] = refl
map-cells-changed f (c ∷ cs) = ap (λ l. f c.cells ∷ l) (map-cells-changed f cs)

map-kind-changed : (f : List Cell → List Cell) (cs : List Cells) → map kind_of_cells (map (changed f) cs) ≡ map kind_of_cells cs
map-kind-changed f [] = refl
map-kind-changed f (c ∷ cs) = ap (λ l. c.kind ∷ l) (map-kind-changed f cs)

pub height-changed : (f : List Cell → List Cell) (h h' : ℕ) → ((xs : List Cell) → length xs ≡ h → length (f xs) ≡ h') → (cs : List Cells) → HaveHeight h cs → HaveHeight h' (map (changed f) cs)
height-changed f h h' g [] t = tt
height-changed f h h' g (c ∷ cs) t = (g c.cells t.0, height-changed f h h' g cs t.1)

All-changed : (f : List Cell → List Cell) → ((p : Cell → Bool) (xs : List Cell) → AllPass p xs → AllPass p (f xs)) → (cs : List Cells) → All AreOfKind cs → All AreOfKind (map (changed f) cs)
All-changed f keeps [] all k d below = absurd (omega (arith, below))
All-changed f keeps (c ∷ cs) all zero d below = keeps (has_kind c.kind) c.cells (all 0 c (omega arith))
All-changed f keeps (c ∷ cs) all (suc k) d below = All-changed f keeps cs (λ j e lt. all (suc j) e (omega (arith, lt))) k d (omega (arith, below))

-- the changed columns still stand in the fields
pub StandsIn-changed : (fields : Fields) (cs : List Cells) (f : List Cell → List Cell) (h' : ℕ) → ((xs : List Cell) → length xs ≡ height_of cs → length (f xs) ≡ h') →
    ((p : Cell → Bool) (xs : List Cell) → AllPass p xs → AllPass p (f xs)) → StandsIn fields cs → StandsIn fields (map (changed f) cs)
StandsIn-changed fields cs f h' g keeps s = record {
  schema = s.schema;
  kinds = map-kind-changed f cs ∙ s.kinds;
  lengths = lengths-all h' (map (changed f) cs) (height-changed f (height_of cs) h' g cs (of_height fields cs s));
  cells = All-changed f keeps cs s.cells;
}

-- one more item changed, in a list that is changed item by item
pub set-map-step : {X : Type 0} (f : X → X) (xs : List X) (i : ℕ) (d : X) → i < length xs →
    set (map f (take i xs) ++ drop i xs) i (f (get_or (map f (take i xs) ++ drop i xs) i d)) ≡ map f (take (suc i) xs) ++ drop (suc i) xs
set-map-step f [] i d h = absurd (omega (arith, h))
set-map-step f (x ∷ xs) zero d h = refl
set-map-step f (x ∷ xs) (suc i) d h = ap (λ l. f x ∷ l) (set-map-step f xs i d (omega (arith, h)))

-- the items from place i on are as they were
pub unchanged-at : {X : Type 0} (f : X → X) (xs : List X) (i : ℕ) (d : X) → i < length xs → get_or (map f (take i xs) ++ drop i xs) i d ≡ get_or xs i d
unchanged-at f [] i d h = absurd (omega (arith, h))
unchanged-at f (x ∷ xs) zero d h = refl
unchanged-at f (x ∷ xs) (suc i) d h = unchanged-at f xs i d (omega (arith, h))

pub all-changed : {X : Type 0} (f : X → X) (xs : List X) (i : ℕ) → length xs ≤ i → map f (take i xs) ++ drop i xs ≡ map f xs
all-changed f [] zero h = refl
all-changed f [] (suc i) h = refl
all-changed f (x ∷ xs) zero h = absurd (omega (arith, h))
all-changed f (x ∷ xs) (suc i) h = ap (λ l. f x ∷ l) (all-changed f xs i (omega (arith, h)))

-- ---- cuts

take-copies : {X : Type 0} (n h : ℕ) (x : X) → replicate (min n h) x ≡ take n (replicate h x)
take-copies zero h x = ap (λ k. replicate k x) (let e : min 0 h ≡ 0 = omega arith in e)
take-copies (suc n) zero x = ap (λ k. replicate k x) (let e : min (suc n) 0 ≡ 0 = omega arith in e)
take-copies (suc n) (suc h) x = ap (λ k. replicate k x) (let e : min (suc n) (suc h) ≡ suc (min n h) = omega arith in e) ∙ ap (λ l. x ∷ l) (take-copies n h x)

take-rows_of : (n h : ℕ) (columns : List (List Cell)) → rows_of (min n h) (map (take n) columns) ≡ take n (rows_of h columns)
take-rows_of n h [] = take-copies n h []
take-rows_of n h (c ∷ columns) = ap (zip_with (λ x row. x ∷ row) (take n c)) (take-rows_of n h columns) ∙ sym (take-zip_with (λ x row. x ∷ row) n c (rows_of h columns))

pub AllPass-take : {X : Type 0} (p : X → Bool) (n : ℕ) (xs : List X) → AllPass p xs → AllPass p (take n xs)
AllPass-take p zero xs all k d below = absurd (omega (arith, below))
AllPass-take p (suc n) [] all k d below = absurd (omega (arith, below))
AllPass-take p (suc n) (x ∷ xs) all zero d below = all 0 x (omega arith)
AllPass-take p (suc n) (x ∷ xs) all (suc k) d below = AllPass-take p n xs (λ j e lt. all (suc j) e (omega (arith, lt))) k d (omega (arith, below))

-- the height after a change; a batch has a column
height-of-changed : (f : List Cell → List Cell) (cs : List Cells) (h h' : ℕ) → ((xs : List Cell) → length xs ≡ h → length (f xs) ≡ h') → HaveHeight h cs → 0 < length cs → height_of (map (changed f) cs) ≡ h'
height-of-changed f [] h h' g t some = absurd (omega (arith, some))
height-of-changed f (c ∷ cs) h h' g t some = g c.cells t.0

pub StandsIn-cut : (fields : Fields) (n : ℕ) (cs : List Cells) → StandsIn fields cs → StandsIn fields (map (changed (take n)) cs)
StandsIn-cut fields n cs s = StandsIn-changed fields cs (take n) (min n (height_of cs)) (λ xs e. length-take n xs ∙ ap (min n) e) (λ p xs. AllPass-take p n xs) s

-- the rows after each column is cut
pub rows-cut : (n : ℕ) (cs : List Cells) → rows_of (height_of (map (changed (take n)) cs)) (map cells (map (changed (take n)) cs)) ≡ take n (rows_of (height_of cs) (map cells cs))
rows-cut n cs =
    ap (rows_of (height_of (map (changed (take n)) cs))) (map-cells-changed (take n) cs)
    ∙ ap (λ h. rows_of h (map (take n) (map cells cs))) (height cs)
    ∙ take-rows_of n (height_of cs) (map cells cs)
  where
    height : (cs : List Cells) → height_of (map (changed (take n)) cs) ≡ min n (height_of cs)
    height [] = omega arith
    height (c ∷ cs) = length-take n c.cells

-- ---- masks

keep-copies : {X : Type 0} (mask : List Bool) (x : X) → replicate (length (keep mask mask)) x ≡ keep mask (replicate (length mask) x)
keep-copies mask x = go mask mask
  where
    go : (m n : List Bool) → replicate (length (keep m n)) x ≡ keep m (replicate (length n) x)
    go [] n = refl
    go (b ∷ m) [] = refl
    go (true ∷ m) (c ∷ n) = ap (λ l. x ∷ l) (go m n)
    go (false ∷ m) (c ∷ n) = go m n

keep-rows_of : (mask : List Bool) (cs : List Cells) → HaveHeight (length mask) cs → rows_of (length (keep mask mask)) (map (keep mask) (map cells cs)) ≡ keep mask (rows_of (length mask) (map cells cs))
keep-rows_of mask [] t = keep-copies mask []
keep-rows_of mask (c ∷ cs) t =
    ap (zip_with (λ x row. x ∷ row) (keep mask c.cells)) (keep-rows_of mask cs t.1)
    ∙ sym (keep-zip_with (λ x row. x ∷ row) mask c.cells (rows_of (length mask) (map cells cs)) (length-rows_of (length mask) cs t.1 ∙ sym t.0))

pub AllPass-keep : {X : Type 0} (p : X → Bool) (mask : List Bool) (xs : List X) → AllPass p xs → AllPass p (keep mask xs)
AllPass-keep p [] xs all k d below = absurd (omega (arith, below))
AllPass-keep p (b ∷ mask) [] all k d below = absurd (omega (arith, below))
AllPass-keep p (true ∷ mask) (x ∷ xs) all zero d below = all 0 x (omega arith)
AllPass-keep p (true ∷ mask) (x ∷ xs) all (suc k) d below = AllPass-keep p mask xs (λ j e lt. all (suc j) e (omega (arith, lt))) k d (omega (arith, below))
AllPass-keep p (false ∷ mask) (x ∷ xs) all k d below = AllPass-keep p mask xs (λ j e lt. all (suc j) e (omega (arith, lt))) k d below

kept-length : (mask : List Bool) (h : ℕ) → length mask ≡ h → (xs : List Cell) → length xs ≡ h → length (keep mask xs) ≡ length (keep mask mask)
kept-length mask h e xs f = length-keep mask xs mask (f ∙ sym e)

pub StandsIn-keep : (fields : Fields) (mask : List Bool) (cs : List Cells) → length mask ≡ height_of cs → StandsIn fields cs → StandsIn fields (map (changed (keep mask)) cs)
StandsIn-keep fields mask cs e s = StandsIn-changed fields cs (keep mask) (length (keep mask mask)) (kept-length mask (height_of cs) e) (λ p xs. AllPass-keep p mask xs) s

pub rows-keep : (fields : Fields) (mask : List Bool) (cs : List Cells) → length mask ≡ height_of cs → 0 < length cs → StandsIn fields cs →
    rows_of (height_of (map (changed (keep mask)) cs)) (map cells (map (changed (keep mask)) cs)) ≡ keep mask (rows_of (height_of cs) (map cells cs))
rows-keep fields mask cs e some s =
    ap (rows_of (height_of (map (changed (keep mask)) cs))) (map-cells-changed (keep mask) cs)
    ∙ ap (λ h. rows_of h (map (keep mask) (map cells cs))) (height-of-changed (keep mask) cs (height_of cs) (length (keep mask mask)) (kept-length mask (height_of cs) e) (of_height fields cs s) some)
    ∙ keep-rows_of mask cs (rw e (of_height fields cs s))
    ∙ ap (λ h. keep mask (rows_of h (map cells cs))) e

-- ---- rows that are joined

copies-append : {X : Type 0} (m n : ℕ) (x : X) → replicate (m + n) x ≡ replicate m x ++ replicate n x
copies-append zero n x = ap (λ k. replicate k x) (let e : 0 + n ≡ n = omega arith in e)
copies-append (suc m) n x = ap (λ k. replicate k x) (let e : suc m + n ≡ suc (m + n) = omega arith in e) ∙ ap (λ l. x ∷ l) (copies-append m n x)

rows_of-joined : (m n : ℕ) (cs ds : List Cells) → length cs ≡ length ds → HaveHeight m cs → HaveHeight n ds →
    rows_of (m + n) (map cells (zip_with joined_cells cs ds)) ≡ rows_of m (map cells cs) ++ rows_of n (map cells ds)
rows_of-joined m n [] [] e s t = copies-append m n []
rows_of-joined m n [] (d ∷ ds) e s t = absurd (omega (arith, e))
rows_of-joined m n (c ∷ cs) [] e s t = absurd (omega (arith, e))
rows_of-joined m n (c ∷ cs) (d ∷ ds) e s t =
    ap (zip_with (λ x row. x ∷ row) (c.cells ++ d.cells)) (rows_of-joined m n cs ds (omega (arith, e)) s.1 t.1)
    ∙ zip_with-append (λ x row. x ∷ row) c.cells d.cells (rows_of m (map cells cs)) (rows_of n (map cells ds)) (length-rows_of m cs s.1 ∙ sym s.0)

height-joined : (m n : ℕ) (cs ds : List Cells) → HaveHeight m cs → HaveHeight n ds → HaveHeight (m + n) (zip_with joined_cells cs ds)
height-joined m n [] ds s t = tt
height-joined m n (c ∷ cs) [] s t = tt
height-joined m n (c ∷ cs) (d ∷ ds) s t = (length-append c.cells d.cells ∙ (λ i. s.0 i + t.0 i), height-joined m n cs ds s.1 t.1)

kinds-joined : (cs ds : List Cells) → length cs ≡ length ds → map kind_of_cells (zip_with joined_cells cs ds) ≡ map kind_of_cells cs
kinds-joined [] ds e = refl
kinds-joined (c ∷ cs) [] e = absurd (omega (arith, e))
kinds-joined (c ∷ cs) (d ∷ ds) e = ap (λ l. c.kind ∷ l) (kinds-joined cs ds (omega (arith, e)))

AllPass-append : {X : Type 0} (p : X → Bool) (xs ys : List X) → AllPass p xs → AllPass p ys → AllPass p (xs ++ ys)
AllPass-append p [] ys a b k d below = b k d below
AllPass-append p (x ∷ xs) ys a b zero d below = a 0 x (omega arith)
AllPass-append p (x ∷ xs) ys a b (suc k) d below = AllPass-append p xs ys (λ j e lt. a (suc j) e (omega (arith, lt))) b k d (omega (arith, below))

All-joined : (cs ds : List Cells) → map kind_of_cells cs ≡ map kind_of_cells ds → All AreOfKind cs → All AreOfKind ds → All AreOfKind (zip_with joined_cells cs ds)
All-joined [] ds e a b k d below = absurd (omega (arith, below))
All-joined (c ∷ cs) [] e a b k d below = absurd (omega (arith, below))
All-joined (c ∷ cs) (d ∷ ds) e a b zero x below =
    let same : d.kind ≡ c.kind = cc in
    AllPass-append (has_kind c.kind) c.cells d.cells (a 0 c (omega arith)) (rw (← same) (b 0 d (omega arith)))
All-joined (c ∷ cs) (d ∷ ds) e a b (suc k) x below =
    All-joined cs ds (cc) (λ j y lt. a (suc j) y (omega (arith, lt))) (λ j y lt. b (suc j) y (omega (arith, lt))) k x (omega (arith, below))

same-lengths : (cs ds : List Cells) → map kind_of_cells cs ≡ map kind_of_cells ds → length cs ≡ length ds
same-lengths cs ds e = sym (length-map cs kind_of_cells) ∙ ap length e ∙ length-map ds kind_of_cells

pub StandsIn-joined : (fields : Fields) (cs ds : List Cells) → StandsIn fields cs → StandsIn fields ds → StandsIn fields (zip_with joined_cells cs ds)
StandsIn-joined fields cs ds s t = let e : map kind_of_cells cs ≡ map kind_of_cells ds = s.kinds ∙ sym t.kinds in record {
  schema = s.schema;
  kinds = kinds-joined cs ds (same-lengths cs ds e) ∙ s.kinds;
  lengths = lengths-all (height_of cs + height_of ds) (zip_with joined_cells cs ds) (height-joined (height_of cs) (height_of ds) cs ds (of_height fields cs s) (of_height fields ds t));
  cells = All-joined cs ds e s.cells t.cells;
}

pub rows-joined : (fields : Fields) (cs ds : List Cells) → StandsIn fields cs → StandsIn fields ds →
    rows_of (height_of (zip_with joined_cells cs ds)) (map cells (zip_with joined_cells cs ds)) ≡ rows_of (height_of cs) (map cells cs) ++ rows_of (height_of ds) (map cells ds)
rows-joined fields cs ds s t = let e : length cs ≡ length ds = same-lengths cs ds (s.kinds ∙ sym t.kinds) in
    ap (λ h. rows_of h (map cells (zip_with joined_cells cs ds))) (height cs ds e) ∙ rows_of-joined (height_of cs) (height_of ds) cs ds e (of_height fields cs s) (of_height fields ds t)
  where
    height : (cs ds : List Cells) → length cs ≡ length ds → height_of (zip_with joined_cells cs ds) ≡ height_of cs + height_of ds
    height [] [] e = omega arith
    height [] (d ∷ ds) e = absurd (omega (arith, e))
    height (c ∷ cs) [] e = absurd (omega (arith, e))
    height (c ∷ cs) (d ∷ ds) e = length-append c.cells d.cells

-- ---- columns that are checked against a schema

-- a schema has a column, and so has a batch
pub some-column : (fields : Fields) (cs : List Cells) → StandsIn fields cs → 0 < length cs
some-column fields cs s = omega (arith, s.schema.some_column, ap length s.kinds, length-map cs kind_of_cells, length-map fields (λ (f : Field). f.1))

-- the columns from place i on, and those after it
pub pointwise-step : (fields : Fields) (cs : List Cells) (i : ℕ) (c : Cells) (k : Kind) → i < length cs → c ≡ get_or cs i c → slice_get (kinds_of fields) i ≡ Some k →
    pointwise has_kind_of (drop i fields) (drop i cs) ≡ (same_kind c.kind k && pointwise has_kind_of (drop (suc i) fields) (drop (suc i) cs))
pointwise-step fields [] i c k below e g = absurd (omega (arith, below))
pointwise-step [] (x ∷ cs) i c k below e g = absurd (cc)
pointwise-step (f ∷ fields) (x ∷ cs) zero c k below e g =
    let same : x ≡ c = sym e in let kind : f.1 ≡ k = cc in λ i. same_kind (same i).kind (kind i) && pointwise has_kind_of fields cs
pointwise-step (f ∷ fields) (x ∷ cs) (suc i) c k below e g = pointwise-step fields cs i c k (omega (arith, below)) e g

-- columns that pass have the kinds of the fields
pub kinds-pass : (fields : Fields) (cs : List Cells) → pointwise has_kind_of fields cs ≡ true → map kind_of_cells cs ≡ kinds_of fields
kinds-pass [] [] e = refl
kinds-pass [] (c ∷ cs) e = absurd (cc)
kinds-pass (f ∷ fields) [] e = absurd (cc)
kinds-pass (f ∷ fields) (c ∷ cs) e = λ i. (same_kind_decides c.kind f.1).0 (first_so (has_kind_of f c) (pointwise has_kind_of fields cs) e) i ∷ kinds-pass fields cs (second_so (has_kind_of f c) (pointwise has_kind_of fields cs) e) i

-- columns of one length, by the test of the code
pub lengths-pass : (h : ℕ) (cs : List Cells) → list_all (λ (c : Cells). length c.cells == h) cs ≡ true → All (λ (c : Cells). length c.cells ≡ h) cs
lengths-pass h cs e k d below = (Decides-eqb (length (get_or cs k d).cells) h).0 (AllPass-from_list_all (λ (c : Cells). length c.cells == h) cs e k d below)

pub pass-lengths : (h : ℕ) (cs : List Cells) → All (λ (c : Cells). length c.cells ≡ h) cs → list_all (λ (c : Cells). length c.cells == h) cs ≡ true
pass-lengths h cs all = list_all-from_AllPass (λ (c : Cells). length c.cells == h) cs (λ k d below. (Decides-eqb (length (get_or cs k d).cells) h).1 (all k d below))

-- ---- a row of the columns

copy-at : (n i : ℕ) → i < n → slice_get (replicate n (let none : Row = [] in none)) i ≡ Some []
copy-at zero i below = absurd (omega (arith, below))
copy-at (suc n) zero below = refl
copy-at (suc n) (suc i) below = copy-at n i (omega (arith, below))

slice_get-value : (xs : List Cell) (i : ℕ) → i < length xs → slice_get xs i ≡ Some (value_at i xs)
slice_get-value [] i below = absurd (omega (arith, below))
slice_get-value (x ∷ xs) zero below = refl
slice_get-value (x ∷ xs) (suc i) below = slice_get-value xs i (omega (arith, below))

pub row-at : (h : ℕ) (cs : List Cells) (i : ℕ) → HaveHeight h cs → i < h → slice_get (rows_of h (map cells cs)) i ≡ Some (map (λ (c : Cells). value_at i c.cells) cs)
row-at h [] i t below = copy-at h i below
row-at h (c ∷ cs) i t below =
    slice_get-zip_with (λ x row. x ∷ row) c.cells (rows_of h (map cells cs)) i (value_at i c.cells) (map (λ (c : Cells). value_at i c.cells) cs)
    (slice_get-value c.cells i (omega (arith, t.0, below))) (row-at h cs i t.1 below)

pub value-at : (xs : List Cell) (i : ℕ) (x : Cell) → slice_get xs i ≡ Some x → value_at i xs ≡ x
value-at [] i x e = absurd (cc)
value-at (y ∷ xs) zero x e = cc
value-at (y ∷ xs) (suc i) x e = value-at xs i x e

-- what a list that was written through a slice of all of it holds
pub written : {X : Type 0} (n : ℕ) (new old : List X) → length new ≡ length old → n ≡ length old → take n (new ++ drop (length new) old) ≡ new
written n new old e f = ap (λ k. take k (new ++ drop (length new) old)) (f ∙ sym e) ∙ take-append_seam new (drop (length new) old)

-- one more item through a map
pub map-take-step : {X Y : Type 0} (f : X → Y) (xs : List X) (i : ℕ) (x : X) → i < length xs → x ≡ get_or xs i x → map f (take (i + 1) xs) ≡ map f (take i xs) ++ f x ∷ []
map-take-step f xs i x h e = ap (λ n. map f (take n xs)) (let g : i + 1 ≡ suc i = omega arith in g) ∙ go xs i h e
  where
    go : (xs : List _) (i : ℕ) → i < length xs → x ≡ get_or xs i x → map f (take (suc i) xs) ≡ map f (take i xs) ++ f x ∷ []
    go [] i h e = absurd (omega (arith, h))
    go (y ∷ xs) zero h e = ap (λ z. f z ∷ []) (sym e)
    go (y ∷ xs) (suc i) h e = ap (λ l. f y ∷ l) (go xs i (omega (arith, h)) e)
