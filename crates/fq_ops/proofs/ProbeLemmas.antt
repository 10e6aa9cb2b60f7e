-- The columns that are gathered for the pairs of a join make the join's rows.
use Rattle.std.proofs.Common.{◌≡◌, ℕ, zero, suc, ◌+◌, ◌-◌, ◌<◌, ◌≤◌, Bool, true, false, not, cond, List, [], ◌∷◌, ◌++◌, map, filter, drop, length, zip, replicate, Option, Some, None, refl, sym, ap, subst, ◌∙◌, arith, if◌then◌else◌, get_or, nat_le, length-append}
use Rattle.std.specs.List.{range_with_len}
use Rattle.std.specs.Option.{option_map_or}
use Rattle.std.specs.Cmp.Lexicographic.{pointwise}
use Rattle.std.proofs.lemmas.Bool.{and_parts}
use Rattle.std.proofs.lemmas.List.{length-map, map-append}
use Rattle.fq_column.specs.declared.cells.Cell.{Cell}
use Rattle.fq_column.specs.declared.cells.Cell.TheVariants.{Null}
use Rattle.fq_column.specs.Frame.{Field, Fields, Frame, IsFrame, Name, Row, kinds_of, names_of, has_name}
use Rattle.fq_column.specs.Lists.{numbers}
use Rattle.fq_ops.specs.declared.joins.How.{How}
use Rattle.fq_ops.specs.declared.joins.How.TheVariants.{Inner, Left, Semi, Anti}
use Rattle.fq_ops.specs.Join.{joined_fields, keys_match, renamed, right_name, right_values, taken}
use Rattle.fq_ops.specs.Pairs.{Pair, pairs_of, pairs_within, matches_of, pair_row, named_key, join_picks, left_value, right_value}
use Rattle.fq_ops.specs.Picks.{Pick, row_of, picks_from}
use Rattle.fq_ops.specs.Probing.{pairs_from}
use Rattle.fq_ops.specs.declared.probes.Cursor.{Cursor}
use Rattle.fq_ops.proofs.PickLemmas.{cell-transposed, kinds, kinds-picked, nulls-picked, row-picked}
use Rattle.fq_ops.proofs.RefusalLemmas.{map-map}
use Rattle.fq_ops.proofs.ZipLemmas.{map-zip_second}

-- ---- what holds of each item

module _ {X : Type 0} where
  abbrev pub AllIn : (X → Type 0) → List X → Type 0
  AllIn P [] = Unit {0}
  AllIn P (x ∷ xs) = P x × AllIn P xs

  AllIn-append : (P : X → Type 0) (xs ys : List X) → AllIn P xs → AllIn P ys → AllIn P (xs ++ ys)
  AllIn-append P [] ys a b = b
  AllIn-append P (x ∷ xs) ys a b = (a.0, AllIn-append P xs ys a.1 b)

  AllIn-first : (P : X → Type 0) (xs ys : List X) → AllIn P (xs ++ ys) → AllIn P xs
  AllIn-first P [] ys a = tt
  AllIn-first P (x ∷ xs) ys a = (a.0, AllIn-first P xs ys a.1)

  AllIn-drop : (P : X → Type 0) (n : ℕ) (xs : List X) → AllIn P xs → AllIn P (drop n xs)
  AllIn-drop P zero xs a = a
  AllIn-drop P (suc n) [] a = tt
  AllIn-drop P (suc n) (x ∷ xs) a = AllIn-drop P n xs a.1

  pub AllIn-filter : (P : X → Type 0) (p : X → Bool) (xs : List X) → AllIn P xs → AllIn P (filter p xs)
  AllIn-filter P p [] a = tt
  AllIn-filter P p (x ∷ xs) a = by (p x) refl (AllIn-filter P p xs a.1)
    where
      by : (b : Bool) → p x ≡ b → AllIn P (filter p xs) → AllIn P (filter p (x ∷ xs))
      by true e rest = subst (λ b. AllIn P (cond b (x ∷ filter p xs) (filter p xs))) (sym e) (a.0, rest)
      by false e rest = subst (λ b. AllIn P (cond b (x ∷ filter p xs) (filter p xs))) (sym e) rest

  pub map-in : {Y : Type 0} (P : X → Type 0) (f g : X → Y) → ((x : X) → P x → f x ≡ g x) → (xs : List X) → AllIn P xs → map f xs ≡ map g xs
  map-in P f g same [] a = refl
  map-in P f g same (x ∷ xs) a = λ i. same x a.0 i ∷ map-in P f g same xs a.1 i

AllIn-range : (n a k : ℕ) → (0 < k → a + k ≤ n) → AllIn (λ i. i < n) (range_with_len a k)
AllIn-range n a zero h = tt
AllIn-range n a (suc k) h = let low : a + suc k ≤ n = h (omega arith) in (omega (arith, low), AllIn-range n (a + 1) k (λ _. omega (arith, low)))

pub AllIn-map : {X Y : Type 0} (P : Y → Type 0) (Q : X → Type 0) (f : X → Y) → ((x : X) → Q x → P (f x)) → (xs : List X) → AllIn Q xs → AllIn P (map f xs)
AllIn-map P Q f g [] a = tt
AllIn-map P Q f g (x ∷ xs) a = (g x a.0, AllIn-map P Q f g xs a.1)

-- ---- the places of pairs lie within the rows

abbrev pub IsInside : ℕ → Option ℕ → Type 0
IsInside n None = Unit {0}
IsInside n (Some m) = m < n

abbrev pub ArePlaces : ℕ → ℕ → Pair → Type 0
ArePlaces ls rows p = (p.0 < ls) × IsInside rows p.1

module _ (ls rows : ℕ) where
  of-one : (how : How) (l : ℕ) (ms : List ℕ) → l < ls → AllIn (λ m. m < rows) ms → AllIn (ArePlaces ls rows) (pairs_of how l ms)
  of-one Inner l [] low a = tt
  of-one Left l [] low a = ((low, tt), tt)
  of-one Semi l [] low a = tt
  of-one Anti l [] low a = ((low, tt), tt)
  of-one Semi l (m ∷ ms) low a = ((low, tt), tt)
  of-one Anti l (m ∷ ms) low a = tt
  of-one Inner l (m ∷ ms) low a = AllIn-map (ArePlaces ls rows) (λ m. m < rows) (λ m. (l, Some m)) (λ m b. (low, b)) (m ∷ ms) a
  of-one Left l (m ∷ ms) low a = AllIn-map (ArePlaces ls rows) (λ m. m < rows) (λ m. (l, Some m)) (λ m b. (low, b)) (m ∷ ms) a

  of-all : (output : ℕ → List Pair) → ((l : ℕ) → l < ls → AllIn (ArePlaces ls rows) (output l)) → (room : ℕ) (xs : List ℕ) → AllIn (λ l. l < ls) xs → AllIn (ArePlaces ls rows) (pairs_within output room xs).0
  of-all output each room [] a = tt
  of-all output each room (l ∷ xs) a = by (nat_le (length (output l)) room) refl (of-all output each (room - length (output l)) xs a.1)
    where
      by : (b : Bool) → nat_le (length (output l)) room ≡ b → AllIn (ArePlaces ls rows) (pairs_within output (room - length (output l)) xs).0 → AllIn (ArePlaces ls rows) (pairs_within output room (l ∷ xs)).0
      by true e tail = let rest = pairs_within output (room - length (output l)) xs in subst (λ b. let u : List Pair × Option ℕ = (if b then (output l ++ rest.0, rest.1) else ([], Some l)) in AllIn (ArePlaces ls rows) u.0) (sym e) (AllIn-append (ArePlaces ls rows) (output l) rest.0 (each l a.0) tail)
      by false e tail = let rest = pairs_within output (room - length (output l)) xs in subst (λ b. let u : List Pair × Option ℕ = (if b then (output l ++ rest.0, rest.1) else ([], Some l)) in AllIn (ArePlaces ls rows) u.0) (sym e) tt

-- so do those of a part of a join, which begins at a left place
pub part-inside : (how : How) (nulls_equal : Bool) (left right : Fields) (on : List Name) (rows ls : List Row) (from : Cursor) (ps more : List Pair) →
    (pairs_from (λ l. pairs_of how l (matches_of nulls_equal (named_key right on rows) (length rows) (named_key left on ls l))) (length ls) from).0 ≡ ps ++ more → AllIn (ArePlaces (length ls) (length rows)) ps
part-inside how nulls_equal left right on rows ls from ps more e =
    AllIn-first (ArePlaces (length ls) (length rows)) ps more
    (subst (AllIn (ArePlaces (length ls) (length rows))) e
    (AllIn-drop (ArePlaces (length ls) (length rows)) from.given _
    (of-all (length ls) (length rows) (λ l. pairs_of how l (matches_of nulls_equal (named_key right on rows) (length rows) (named_key left on ls l)))
    (λ l low. of-one (length ls) (length rows) how l (matches_of nulls_equal (named_key right on rows) (length rows) (named_key left on ls l)) low
    (AllIn-filter (λ m. m < length rows) (λ n. keys_match nulls_equal (named_key left on ls l) (named_key right on rows n)) (numbers (length rows)) (AllIn-range (length rows) 0 (length rows) (λ _. omega arith))))
    from.room (range_with_len from.row (length ls - from.row)) (AllIn-range (length ls) from.row (length ls - from.row) (λ some. omega (arith, some))))))

-- ---- rows of a frame have a value for each field

pointwise-length : {X Y : Type 0} (f : X → Y → Bool) (xs : List X) (ys : List Y) → pointwise f xs ys ≡ true → length ys ≡ length xs
pointwise-length f [] [] e = refl
pointwise-length f [] (y ∷ ys) e = absurd (cc)
pointwise-length f (x ∷ xs) [] e = absurd (cc)
pointwise-length f (x ∷ xs) (y ∷ ys) e = ap suc (pointwise-length f xs ys (and_parts (f x y) (pointwise f xs ys) e).1)

pub row-length : (frame : Frame) → IsFrame frame → (l : ℕ) → l < length frame.rows → length (get_or frame.rows l []) ≡ length frame.fields
row-length frame h l low = pointwise-length _ frame.fields (get_or frame.rows l []) (h.1 l [] low)

-- ---- the columns' kinds, and their rows

filter-all : {X : Type 0} (xs : List X) → filter (λ _. true) xs ≡ xs
filter-all [] = refl
filter-all (x ∷ xs) = ap (λ l. x ∷ l) (filter-all xs)

module _ (how : How) (left right : Frame) (on : List Name) where
  abbrev other : Name → Bool
  other n = not (has_name on n)

  abbrev more : Fields
  more = taken how right.fields

  pub join-kinds : kinds_of (joined_fields how left.fields right.fields on) ≡ kinds (join_picks how left right on)
  join-kinds =
      map-append (λ (f : Field). f.1) left.fields (renamed left.fields on more)
      ∙ (λ i. (sym (kinds-picked (λ _. true) (left_value left.rows) 0 left.fields ∙ ap (map (λ (f : Field). f.1)) (filter-all left.fields))) i
      ++ (map-map (λ (f : Field). f.1) (λ (f : Field). let g : Field = (right_name left.fields f.0, f.1) in g) (filter (λ (f : Field). other f.0) more) ∙ sym (kinds-picked other (right_value right.rows) 0 more)) i)
      ∙ sym (map-append (λ (p : Pick Pair). p.0) (picks_from (λ _. true) (left_value left.rows) 0 left.fields) (picks_from other (right_value right.rows) 0 more))

  module _ (l : IsFrame left) (r : IsFrame right) where
    left-part : (p : Pair) → p.0 < length left.rows → row_of (picks_from (λ _. true) (left_value left.rows) 0 left.fields) p ≡ get_or left.rows p.0 []
    left-part p low =
        let row = get_or left.rows p.0 [] in
        let size = row-length left l p.0 low in
        row-picked (λ _. true) (left_value left.rows) p row (λ i. cell-transposed i p.0 left.rows) 0 left.fields row refl size
        ∙ ap (map (λ (q : Name × Cell). q.1)) (filter-all (zip (names_of left.fields) row))
        ∙ map-zip_second (names_of left.fields) row (length-map left.fields (λ (f : Field). f.0) ∙ sym size)

    all-parts : (a m : ℕ) → m < length right.rows → row_of (picks_from other (right_value right.rows) 0 right.fields) (a, Some m) ≡ right_values left.fields right.fields on (get_or right.rows m [])
    all-parts a m low = row-picked other (right_value right.rows) (a, Some m) (get_or right.rows m []) (λ i. cell-transposed i m right.rows) 0 right.fields (get_or right.rows m []) refl (row-length right r m low)

    some-parts : (h : How) (a m : ℕ) → m < length right.rows → row_of (picks_from other (right_value right.rows) 0 (taken h right.fields)) (a, Some m) ≡ right_values left.fields (taken h right.fields) on (get_or right.rows m [])
    some-parts Inner a m low = all-parts a m low
    some-parts Left a m low = all-parts a m low
    some-parts Semi a m low = refl
    some-parts Anti a m low = refl

    right-part : (a : ℕ) (o : Option ℕ) → IsInside (length right.rows) o → row_of (picks_from other (right_value right.rows) 0 more) (a, o) ≡ option_map_or (λ m. right_values left.fields more on (get_or right.rows m [])) o (replicate (length (filter (λ (f : Field). other f.0) more)) Null)
    right-part a None low = nulls-picked other (right_value right.rows) (a, None) (λ i. refl) 0 more
    right-part a (Some m) low = some-parts how a m low

    pub pair-row : (p : Pair) → ArePlaces (length left.rows) (length right.rows) p → row_of (join_picks how left right on) p ≡ pair_row how left.fields right.fields on right.rows left.rows p
    pair-row p h =
        map-append (λ (q : Pick Pair). q.1 p) (picks_from (λ _. true) (left_value left.rows) 0 left.fields) (picks_from other (right_value right.rows) 0 more)
        ∙ (λ i. left-part p h.0 i ++ right-part p.0 p.1 h.1 i)

    pub picks-some : 0 < length (join_picks how left right on)
    picks-some =
        let sizes : length (joined_fields how left.fields right.fields on) ≡ length (join_picks how left right on) =
        sym (length-map (joined_fields how left.fields right.fields on) (λ (f : Field). f.1)) ∙ ap length join-kinds ∙ length-map (join_picks how left right on) (λ (p : Pick Pair). p.0) in
        omega (arith, sizes, l.0.some_column, length-append left.fields (renamed left.fields on more))
