-- A column put among the columns of a schema, and the rows that then stand in them.
use Rattle.std.proofs.Common.{◌≡◌, ℕ, zero, suc, ◌+◌, ◌<◌, ◌≤◌, Bool, true, false, cond, List, [], ◌∷◌, ◌++◌, length, map, set, replicate, refl, ap, sym, ◌∙◌, arith, Some, None, subst}
use Rattle.std.specs.Prelude.{All}
use Rattle.std.specs.List.{zip}
use Rattle.std.proofs.lemmas.List.{length-map, length-set, length-append, map-append}
use Rattle.fq_column.specs.declared.cells.Cell.{Cell}
use Rattle.fq_column.specs.Batch.{frame_of, frame_with, height_of, kind_of_cells, row_with, StandsIn}
use Rattle.fq_column.specs.Column.{Cells, AreOfKind}
use Rattle.fq_column.specs.Frame.{Field, Fields, IsSchema, Name, Row, kinds_of, names_of, rows_of, position_of, put_named, put_all, same_name}
use Rattle.fq_column.specs.Lists.{zip_with}
use Rattle.fq_column.proofs.BatchLemmas.{HaveHeight, cells, have-height, height_of-is, length-rows_of, lengths-all, of_height}
use Rattle.fq_column.proofs.PutLemmas.{IsSchema-put_named, length-put_named, put_named-new, zip-set, zip-push}

-- ---- what stands under names, under a function

module _ {X Y : Type 0} (f : X → Y) where
  abbrev pub second : Name × X → Name × Y
  second p = (p.0, f p.1)

  pub put_named-map : (ps : List (Name × X)) (x : Name × X) → put_named (map second ps) (second x) ≡ map second (put_named ps x)
  put_named-map [] x = refl
  put_named-map (p ∷ ps) x = go (put_named-map ps x) (same_name x.0 p.0)
    where
      go : put_named (map second ps) (second x) ≡ map second (put_named ps x) → (b : Bool) → cond b (second x ∷ map second ps) (second p ∷ put_named (map second ps) (second x)) ≡ map second (cond b (x ∷ ps) (p ∷ put_named ps x))
      go rest true = refl
      go rest false = ap (λ l. second p ∷ l) rest

  pub put_all-map : (ps xs : List (Name × X)) → put_all (map second ps) (map second xs) ≡ map second (put_all ps xs)
  put_all-map ps [] = refl
  put_all-map ps (x ∷ xs) = ap (λ qs. put_all qs (map second xs)) (put_named-map ps x) ∙ put_all-map (put_named ps x) xs

  pub zip-map : (names : List Name) (xs : List X) → zip names (map f xs) ≡ map second (zip names xs)
  zip-map [] xs = refl
  zip-map (n ∷ names) [] = refl
  zip-map (n ∷ names) (x ∷ xs) = ap (λ l. (n, f x) ∷ l) (zip-map names xs)

  pub put_all-zip : (names : List Name) (xs : List X) (outs : List Name) (ys : List X) → put_all (zip names (map f xs)) (zip outs (map f ys)) ≡ map second (put_all (zip names xs) (zip outs ys))
  put_all-zip names xs outs ys = (λ i. put_all (zip-map names xs i) (zip-map outs ys i)) ∙ put_all-map (zip names xs) (zip outs ys)

  pub values-second : (ps : List (Name × X)) → map (λ p. p.1) (map second ps) ≡ map f (map (λ p. p.1) ps)
  values-second [] = refl
  values-second (p ∷ ps) = ap (λ l. f p.1 ∷ l) (values-second ps)

pub values-zip : {X : Type 0} (names : List Name) (xs : List X) → length names ≡ length xs → map (λ p. p.1) (zip names xs) ≡ xs
values-zip [] [] e = refl
values-zip [] (x ∷ xs) e = absurd (omega (arith, e))
values-zip (n ∷ names) [] e = absurd (omega (arith, e))
values-zip (n ∷ names) (x ∷ xs) e = ap (λ l. x ∷ l) (values-zip names xs (omega (arith, e)))

-- ---- a column put among others, as its field is

pub zip-eta : (fields : Fields) → zip (names_of fields) (kinds_of fields) ≡ fields
zip-eta [] = refl
zip-eta (f ∷ fields) = ap (λ l. f ∷ l) (zip-eta fields)

pub names-zip : {X : Type 0} (names : List Name) (xs : List X) → length names ≡ length xs → map (λ p. p.0) (zip names xs) ≡ names
names-zip [] xs e = refl
names-zip (n ∷ names) [] e = absurd (omega (arith, e))
names-zip (n ∷ names) (x ∷ xs) e = ap (λ l. n ∷ l) (names-zip names xs (omega (arith, e)))

module _ (schema after : Fields) (columns : List Cells) (n : Name) (column : Cells) (width : length columns ≡ length schema) (put : after ≡ put_named schema (n, column.kind)) where
  named : length (names_of schema) ≡ length columns
  named = length-map schema (λ f. f.0) ∙ sym width

  kinded : length (names_of schema) ≡ length (kinds_of schema)
  kinded = length-map schema (λ f. f.0) ∙ sym (length-map schema (λ f. f.1))

  after-replaced : (i : ℕ) → position_of n (names_of schema) ≡ Some i → after ≡ zip (names_of schema) (set (kinds_of schema) i column.kind)
  after-replaced i e = put ∙ ap (λ (f : Fields). put_named f (n, column.kind)) (sym (zip-eta schema)) ∙ zip-set (names_of schema) (kinds_of schema) i n column.kind kinded e

  after-appended : position_of n (names_of schema) ≡ None → after ≡ schema ++ (n, column.kind) ∷ []
  after-appended e = put ∙ put_named-new schema n column.kind e

  pub column-replaced : (i : ℕ) → position_of n (names_of schema) ≡ Some i → zip (names_of after) (set columns i column) ≡ put_named (zip (names_of schema) columns) (n, column)
  column-replaced i e =
      ap (λ (f : Fields). zip (names_of f) (set columns i column)) (after-replaced i e)
      ∙ ap (λ l. zip l (set columns i column)) (names-zip (names_of schema) (set (kinds_of schema) i column.kind) (kinded ∙ sym (length-set (kinds_of schema) i column.kind)))
      ∙ sym (zip-set (names_of schema) columns i n column named e)

  pub width-replaced : (i : ℕ) → position_of n (names_of schema) ≡ Some i → length (set columns i column) ≡ length after
  width-replaced i e = length-set columns i column ∙ width
      ∙ sym (ap length (after-replaced i e) ∙ sym (length-map (zip (names_of schema) (set (kinds_of schema) i column.kind)) (λ p. p.0))
      ∙ ap length (names-zip (names_of schema) (set (kinds_of schema) i column.kind) (kinded ∙ sym (length-set (kinds_of schema) i column.kind))) ∙ length-map schema (λ f. f.0))

  pub column-appended : position_of n (names_of schema) ≡ None → zip (names_of after) (columns ++ column ∷ []) ≡ put_named (zip (names_of schema) columns) (n, column)
  column-appended e =
      ap (λ (f : Fields). zip (names_of f) (columns ++ column ∷ [])) (after-appended e)
      ∙ ap (λ l. zip l (columns ++ column ∷ [])) (map-append (λ (f : Field). f.0) schema ((n, column.kind) ∷ []))
      ∙ zip-push (names_of schema) columns n column named
      ∙ sym (put_named-new (zip (names_of schema) columns) n column (ap (position_of n) (names-zip (names_of schema) columns named) ∙ e))

  pub width-appended : position_of n (names_of schema) ≡ None → length (columns ++ column ∷ []) ≡ length after
  width-appended e = length-append columns (column ∷ []) ∙ ap (λ k. k + 1) width ∙ sym (ap length (after-appended e) ∙ length-append schema ((n, column.kind) ∷ []))

-- ---- the rows that stand in the columns then

abbrev HaveWidth : ℕ → List Row → Type 0
HaveWidth w [] = Unit {0}
HaveWidth w (r ∷ rs) = (length r ≡ w) × HaveWidth w rs

width-replicate : (n : ℕ) → HaveWidth 0 (replicate n [])
width-replicate zero = tt
width-replicate (suc n) = (refl, width-replicate n)

width-cons : (w : ℕ) (xs : List Cell) (rs : List Row) → HaveWidth w rs → HaveWidth (suc w) (zip_with (λ c row. c ∷ row) xs rs)
width-cons w [] rs h = tt
width-cons w (x ∷ xs) [] h = tt
width-cons w (x ∷ xs) (r ∷ rs) h = (ap suc h.0, width-cons w xs rs h.1)

width-rows_of : (h : ℕ) (cs : List Cells) → HaveWidth (length cs) (rows_of h (map cells cs))
width-rows_of h [] = width-replicate h
width-rows_of h (c ∷ cs) = width-cons (length cs) c.cells (rows_of h (map cells cs)) (width-rows_of h cs)

-- a row with a value under a name, by the names alone
abbrev named_with : List Name → Name → Row → Cell → Row
named_with names n row value = map (λ p. p.1) (put_named (zip names row) (n, value))

only-column : (n : Name) (xs : List Cell) → zip_with (λ c row. c ∷ row) xs (replicate (length xs) []) ≡ zip_with (named_with [] n) (replicate (length xs) []) xs
only-column n [] = refl
only-column n (x ∷ xs) = ap (λ (l : List Row). (x ∷ []) ∷ l) (only-column n xs)

-- the value in the place of the first
first-replaced : (m : Name) (names : List Name) (n : Name) → same_name n m ≡ true → (cs : List Cell) (rs : List Row) (xs : List Cell) → length cs ≡ length xs → HaveWidth (length names) rs → length rs ≡ length xs →
    zip_with (λ c row. c ∷ row) xs rs ≡ zip_with (named_with (m ∷ names) n) (zip_with (λ c row. c ∷ row) cs rs) xs
first-replaced m names n s [] rs [] l w k = zip_with-none rs
  where
    zip_with-none : (rs : List Row) → zip_with (λ c row. c ∷ row) [] rs ≡ []
    zip_with-none rs = refl
first-replaced m names n s [] rs (x ∷ xs) l w k = absurd (omega (arith, l))
first-replaced m names n s (c ∷ cs) rs [] l w k = absurd (omega (arith, l))
first-replaced m names n s (c ∷ cs) [] (x ∷ xs) l w k = absurd (omega (arith, k))
first-replaced m names n s (c ∷ cs) (r ∷ rs) (x ∷ xs) l w k =
    (λ i. (sym one i) ∷ first-replaced m names n s cs rs xs (omega (arith, l)) w.1 (omega (arith, k)) i)
  where
    one : named_with (m ∷ names) n (c ∷ r) x ≡ x ∷ r
    one = ap (λ b. map (λ (p : Name × Cell). p.1) (cond b ((n, x) ∷ zip names r) ((m, c) ∷ put_named (zip names r) (n, x)))) s ∙ ap (λ l. x ∷ l) (values-zip names r (sym w.0))

-- the value after the first
first-kept : (m : Name) (names : List Name) (n : Name) → same_name n m ≡ false → (cs : List Cell) (rs : List Row) (xs : List Cell) →
    zip_with (λ c row. c ∷ row) cs (zip_with (named_with names n) rs xs) ≡ zip_with (named_with (m ∷ names) n) (zip_with (λ c row. c ∷ row) cs rs) xs
first-kept m names n s [] rs xs = refl
first-kept m names n s (c ∷ cs) [] xs = refl
first-kept m names n s (c ∷ cs) (r ∷ rs) [] = refl
first-kept m names n s (c ∷ cs) (r ∷ rs) (x ∷ xs) = (λ i. (sym one i) ∷ first-kept m names n s cs rs xs i)
  where
    one : named_with (m ∷ names) n (c ∷ r) x ≡ c ∷ named_with names n r x
    one = ap (λ b. map (λ (p : Name × Cell). p.1) (cond b ((n, x) ∷ zip names r) ((m, c) ∷ put_named (zip names r) (n, x)))) s

rows-under : (h : ℕ) (names : List Name) (cs : List Cells) (n : Name) (x : Cells) → length names ≡ length cs → HaveHeight h cs → length x.cells ≡ h →
    rows_of h (map cells (map (λ p. p.1) (put_named (zip names cs) (n, x)))) ≡ zip_with (named_with names n) (rows_of h (map cells cs)) x.cells
rows-under h [] [] n x w t l = (λ i. zip_with (λ c row. c ∷ row) x.cells (replicate (sym l i) [])) ∙ only-column n x.cells ∙ (λ i. zip_with (named_with [] n) (replicate (l i) []) x.cells)
rows-under h [] (c ∷ cs) n x w t l = absurd (omega (arith, w))
rows-under h (m ∷ names) [] n x w t l = absurd (omega (arith, w))
rows-under h (m ∷ names) (c ∷ cs) n x w t l = go (rows-under h names cs n x (omega (arith, w)) t.1 l) (same_name n m) refl
  where
    narrow : HaveWidth (length names) (rows_of h (map cells cs))
    narrow = subst (λ k. HaveWidth k (rows_of h (map cells cs))) (let e : length cs ≡ length names = omega (arith, w) in e) (width-rows_of h cs)

    go : rows_of h (map cells (map (λ p. p.1) (put_named (zip names cs) (n, x)))) ≡ zip_with (named_with names n) (rows_of h (map cells cs)) x.cells → (b : Bool) → same_name n m ≡ b →
        rows_of h (map cells (map (λ p. p.1) (cond b ((n, x) ∷ zip names cs) ((m, c) ∷ put_named (zip names cs) (n, x)))))
        ≡ zip_with (named_with (m ∷ names) n) (rows_of h (map cells (c ∷ cs))) x.cells
    go rest true s =
        ap (λ l. zip_with (λ c row. c ∷ row) x.cells (rows_of h (map cells l))) (values-zip names cs (omega (arith, w)))
        ∙ first-replaced m names n s c.cells (rows_of h (map cells cs)) x.cells (t.0 ∙ sym l) narrow (length-rows_of h cs t.1 ∙ sym l)
    go rest false s = ap (zip_with (λ c row. c ∷ row) c.cells) rest ∙ first-kept m names n s c.cells (rows_of h (map cells cs)) x.cells

-- the rows with the cells of a column under a name
pub rows-put : (h : ℕ) (fields : Fields) (cs : List Cells) (n : Name) (x : Cells) → length cs ≡ length fields → HaveHeight h cs → length x.cells ≡ h →
    (after : Fields) (ds : List Cells) → length ds ≡ length after → zip (names_of after) ds ≡ put_named (zip (names_of fields) cs) (n, x) →
    rows_of h (map cells ds) ≡ zip_with (row_with fields n) (rows_of h (map cells cs)) x.cells
rows-put h fields cs n x w t l after ds v e =
    ap (λ xs. rows_of h (map cells xs)) (sym (values-zip (names_of after) ds (length-map after (λ f. f.0) ∙ sym v)) ∙ ap (map (λ p. p.1)) e)
    ∙ rows-under h (names_of fields) cs n x (length-map fields (λ f. f.0) ∙ sym w) t l

-- ---- the batch that stands then

abbrev every : {X : Type 0} (P : X → Type 0) → List X → Type 0
every P [] = Unit {0}
every P (x ∷ xs) = P x × every P xs

every-of : {X : Type 0} (P : X → Type 0) (xs : List X) → All P xs → every P xs
every-of P [] all = tt
every-of P (x ∷ xs) all = (all 0 x (omega arith), every-of P xs (λ k d below. all (suc k) d (omega (arith, below))))

all-of : {X : Type 0} (P : X → Type 0) (xs : List X) → every P xs → All P xs
all-of P [] t k d below = absurd (omega (arith, below))
all-of P (x ∷ xs) t zero d below = t.0
all-of P (x ∷ xs) t (suc k) d below = all-of P xs t.1 k d (omega (arith, below))

every-put : {X : Type 0} (P : X → Type 0) (names : List Name) (xs : List X) (n : Name) (x : X) → length names ≡ length xs → every P xs → P x → every P (map (λ p. p.1) (put_named (zip names xs) (n, x)))
every-put P [] [] n x w t h = (h, tt)
every-put P [] (y ∷ ys) n x w t h = absurd (omega (arith, w))
every-put P (m ∷ names) [] n x w t h = absurd (omega (arith, w))
every-put P (m ∷ names) (y ∷ ys) n x w t h = go (every-put P names ys n x (omega (arith, w)) t.1 h) (same_name n m)
  where
    go : every P (map (λ p. p.1) (put_named (zip names ys) (n, x))) → (b : Bool) → every P (map (λ p. p.1) (cond b ((n, x) ∷ zip names ys) ((m, y) ∷ put_named (zip names ys) (n, x))))
    go rest true = (h, subst (every P) (sym (values-zip names ys (omega (arith, w)))) t.1)
    go rest false = (t.0, rest)

module _ (fields : Fields) (cs : List Cells) (n : Name) (x : Cells) (s : StandsIn fields cs) (tall : length x.cells ≡ height_of cs) (of_kind : AreOfKind x) (room : length (put_named fields (n, x.kind)) ≤ 64)
    (after : Fields) (ds : List Cells) (put : after ≡ put_named fields (n, x.kind)) (wide : length ds ≡ length after) (under : zip (names_of after) ds ≡ put_named (zip (names_of fields) cs) (n, x)) where
  width : length cs ≡ length fields
  width = sym (length-map cs kind_of_cells) ∙ ap length s.kinds ∙ length-map fields (λ (f : Field). f.1)

  are : map (λ p. p.1) (put_named (zip (names_of fields) cs) (n, x)) ≡ ds
  are = ap (map (λ p. p.1)) (sym under) ∙ values-zip (names_of after) ds (length-map after (λ f. f.0) ∙ sym wide)

  all-put : (P : Cells → Type 0) → All P cs → P x → All P ds
  all-put P all h = subst (All P) are (all-of P (map (λ p. p.1) (put_named (zip (names_of fields) cs) (n, x))) (every-put P (names_of fields) cs n x (length-map fields (λ f. f.0) ∙ sym width) (every-of P cs all) h))

  heights : HaveHeight (height_of cs) ds
  heights = have-height (height_of cs) ds (all-put (λ (c : Cells). length c.cells ≡ height_of cs) s.lengths tall)

  some : 0 < length ds
  some = omega (arith, wide, ap (λ (f : Fields). length f) put, length-put_named fields (n, x.kind), s.schema.some_column)

  kinds : map kind_of_cells ds ≡ kinds_of after
  kinds =
      ap (map kind_of_cells) (sym are)
      ∙ sym (values-second kind_of_cells (put_named (zip (names_of fields) cs) (n, x)))
      ∙ ap (map (λ p. p.1)) (sym (put_named-map kind_of_cells (zip (names_of fields) cs) (n, x)) ∙ ap (λ (f : Fields). put_named f (n, x.kind)) (sym (zip-map kind_of_cells (names_of fields) cs) ∙ ap (zip (names_of fields)) s.kinds ∙ zip-eta fields) ∙ sym put)

  pub StandsIn-put : StandsIn after ds
  StandsIn-put = record {
    schema = subst IsSchema (sym put) (IsSchema-put_named fields (n, x.kind) s.schema room);
    kinds = kinds;
    lengths = lengths-all (height_of cs) ds heights;
    cells = all-put AreOfKind s.cells of_kind;
  }

  pub frame-put : frame_of after ds ≡ frame_with (frame_of fields cs) n x
  frame-put =
      (λ i. record {
        fields = put i;
        rows = (ap (λ h. rows_of h (map cells ds)) (height_of-is (height_of cs) ds heights some)
            ∙ rows-put (height_of cs) fields cs n x width (of_height fields cs s) tall after ds wide under) i;
      })
