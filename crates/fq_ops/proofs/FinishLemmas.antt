-- The columns of groups are the rows of a grouping.
use Rattle.std.proofs.Common.{◌≡◌, ℕ, zero, suc, ◌+◌, ◌-◌, ◌<◌, ◌≤◌, Bool, true, false, List, [], ◌∷◌, ◌++◌, get_or, length, map, Option, Some, None, refl, sym, ap, ◌∙◌, arith, true≢false, if◌then◌else◌, nat_lt}
use Rattle.std.specs.Prelude.{is_some}
use Rattle.std.specs.List.{AllWithin, range_with_len}
use Rattle.std.specs.Option.{option_map}
use Rattle.std.proofs.lemmas.Bool.Decides.{nat_tests}
use Rattle.std.proofs.lemmas.List.{map-append}
use Rattle.fq_column.specs.declared.cells.Cell.{Cell}
use Rattle.fq_column.specs.declared.cells.Kind.{Kind}
use Rattle.fq_column.specs.declared.cells.Kind.TheVariants.{Whole}
use Rattle.fq_column.specs.Column.{Cells}
use Rattle.fq_column.specs.Frame.{value_at}
use Rattle.fq_column.specs.Lists.{first_missing, numbers}
use Rattle.fq_ops.specs.declared.aggregates.Function.TheVariants as function
use Rattle.fq_ops.specs.Accumulated.{Accumulated, first_found, group_pick, group_picks, key_pick, value_pick}
use Rattle.fq_ops.specs.Picks.{Pick, column_of, columns_of}
use Rattle.fq_ops.specs.Running.{Len, of_kind, outcome}
use Rattle.fq_ops.proofs.PickLemmas.{columns-push}
use Rattle.fq_ops.proofs.RollLemmas.{missing-none, missing-some, numbers-more}

-- ---- one more group, one more column

pub column-more : (p : Pick ℕ) (n : ℕ) → column_of (numbers (n + 1)) p ≡ (let c : Cells = record { kind = p.0; cells = map p.1 (numbers n) ++ p.1 n ∷ [] } in c)
column-more p n = λ i. record { kind = p.0; cells = (ap (map p.1) (numbers-more n) ∙ map-append p.1 (numbers n) (n ∷ [])) i }

module _ (width : ℕ) (keys : List (List Cell)) (accumulators : List Accumulated) (kinds : List Kind) (i : ℕ) where
  pub picks-more : (xs : List ℕ) (columns : List Cells) (column : Cells) → columns ≡ columns_of (group_picks width keys accumulators kinds i) xs → column ≡ column_of xs (group_pick width keys accumulators kinds i) →
      columns ++ column ∷ [] ≡ columns_of (group_picks width keys accumulators kinds (i + 1)) xs
  picks-more xs columns column e g =
      (λ k. e k ++ g k ∷ [])
      ∙ sym (columns-push (group_picks width keys accumulators kinds i) (group_pick width keys accumulators kinds i) xs)
      ∙ sym (ap (λ ps. columns_of ps xs) (ap (map (group_pick width keys accumulators kinds)) (numbers-more i) ∙ map-append (group_pick width keys accumulators kinds) (numbers i) (i ∷ [])))

-- ---- the first that is missing

module _ {X : Type 0} (f : X → Option Cell) where
  none-some : (o : Option Cell) → o ≡ None → is_some o ≡ true → ⊥
  none-some None e h = true≢false (sym h)
  none-some (Some c) e h = (cc)

  pub missing-at : (xs : List X) (i : ℕ) (d : X) → i < length xs → AllWithin (λ x. is_some (f x) ≡ true) xs 0 i → is_some (f (get_or xs i d)) ≡ false → first_missing (map f xs) ≡ Some i
  missing-at [] i d low before here = absurd (omega (arith, low))
  missing-at (x ∷ xs) zero d low before here = by (f x) refl
    where
      by : (o : Option Cell) → f x ≡ o → first_missing (map f (x ∷ xs)) ≡ Some 0
      by None e = ap (λ o. first_missing (o ∷ map f xs)) e ∙ missing-none (map f xs)
      by (Some c) e = absurd (true≢false (sym (ap is_some e) ∙ here))
  missing-at (x ∷ xs) (suc i) d low before here = by (f x) refl (missing-at xs i d (omega (arith, low)) (λ k e a b. before (suc k) e (omega arith) (omega (arith, b))) here)
    where
      by : (o : Option Cell) → f x ≡ o → first_missing (map f xs) ≡ Some i → first_missing (map f (x ∷ xs)) ≡ Some (suc i)
      by None e rest = absurd (none-some (f x) e (before 0 x (omega arith) (omega arith)))
      by (Some c) e rest = ap (λ o. first_missing (o ∷ map f xs)) e ∙ missing-some c (map f xs) ∙ ap (option_map suc) rest

  pub missing-no : (xs : List X) → AllWithin (λ x. is_some (f x) ≡ true) xs 0 (length xs) → first_missing (map f xs) ≡ None
  missing-no [] before = refl
  missing-no (x ∷ xs) before = by (f x) refl (missing-no xs (λ k e a b. before (suc k) e (omega arith) (omega (arith, b))))
    where
      by : (o : Option Cell) → f x ≡ o → first_missing (map f xs) ≡ None → first_missing (map f (x ∷ xs)) ≡ None
      by None e rest = absurd (none-some (f x) e (before 0 x (omega arith) (omega arith)))
      by (Some c) e rest = ap (λ o. first_missing (o ∷ map f xs)) e ∙ missing-some c (map f xs) ∙ ap (option_map suc) rest

-- ---- the first answer that there is

module _ {X Y : Type 0} (f : X → Option Y) where
  abbrev or_else : Option Y → Option Y → Option Y
  or_else o rest = elim o as (λ _. Option Y) [ Some y ↦ Some y | None ↦ rest ]

  pub found-here : (x : X) (xs : List X) (y : Y) → f x ≡ Some y → first_found f (x ∷ xs) ≡ Some y
  found-here x xs y e = ap (λ o. or_else o (first_found f xs)) e

  pub found-past : (x : X) (xs : List X) → f x ≡ None → first_found f (x ∷ xs) ≡ first_found f xs
  found-past x xs e = ap (λ o. or_else o (first_found f xs)) e

  pub found-parts : (x : X) (xs : List X) → first_found f (x ∷ xs) ≡ None → (f x ≡ None) × (first_found f xs ≡ None)
  found-parts x xs e = by (f x) refl
    where
      by : (o : Option Y) → f x ≡ o → (f x ≡ None) × (first_found f xs ≡ None)
      by None p = (p, sym (found-past x xs p) ∙ e)
      by (Some y) p = let clash : Some y ≡ None = sym (found-here x xs y p) ∙ e in absurd (cc)

  pub found-append : (xs : List X) (x : X) → first_found f xs ≡ None → f x ≡ None → first_found f (xs ++ x ∷ []) ≡ None
  found-append [] x e g = found-past x [] g
  found-append (a ∷ xs) x e g = let both = found-parts a xs e in found-past a (xs ++ x ∷ []) both.0 ∙ found-append xs x both.1 g

pub found-at : {Y : Type 0} (f : ℕ → Option Y) (a n g : ℕ) (y : Y) → g < n → first_found f (range_with_len a g) ≡ None → f (a + g) ≡ Some y → first_found f (range_with_len a n) ≡ Some y
found-at f a zero g y low e h = absurd (omega (arith, low))
found-at f a (suc n) zero y low e h = found-here f a (range_with_len (a + 1) n) y (ap f (let z : a ≡ a + 0 = omega arith in z) ∙ h)
found-at f a (suc n) (suc g) y low e h =
    let both = found-parts f a (range_with_len (a + 1) g) e in
    found-past f a (range_with_len (a + 1) n) both.0
    ∙ found-at f (a + 1) n g y (omega (arith, low)) both.1 (ap f (let z : a + 1 + g ≡ a + suc g = omega arith in z) ∙ h)

-- ---- the columns of keys and of aggregates

pub below : (i n : ℕ) → i < n → nat_lt i n ≡ true
below i n h = grind (arith, nat_tests)

pub not-below : (i n : ℕ) → n ≤ i → nat_lt i n ≡ false
not-below i n h = grind (arith, nat_tests)

abbrev pub none : Accumulated
none = record { function = function.Len; column = 0; states = [] }

module _ (width : ℕ) (keys : List (List Cell)) (accumulators : List Accumulated) (kinds : List Kind) (i : ℕ) (kind : Kind) (here : kind ≡ get_or kinds i Whole) (xs : List ℕ) where
  abbrev by_part : Kind → Bool → Cells
  by_part k b = column_of xs (k, λ g. of_kind k (if b then value_at i (get_or keys g []) else outcome (get_or (get_or accumulators (i - width) none).states g (Len 0))))

  pub of_key : i < width → column_of xs (key_pick kind i keys) ≡ column_of xs (group_pick width keys accumulators kinds i)
  of_key h = ap (λ k. by_part k true) here ∙ sym (ap (by_part (get_or kinds i Whole)) (below i width h))

  pub of_value : (a : Accumulated) → a ≡ get_or accumulators (i - width) none → width ≤ i → column_of xs (value_pick kind a) ≡ column_of xs (group_pick width keys accumulators kinds i)
  of_value a e h =
      ap (λ (x : Accumulated). column_of xs (value_pick kind x)) e
      ∙ ap (λ k. by_part k false) here ∙ sym (ap (by_part (get_or kinds i Whole)) (not-below i width h))

-- one key more in a column
pub key-more : (kind : Kind) (keys : List (List Cell)) (place i : ℕ) (column new : Cells) (key : List Cell) (v : Cell) → column ≡ column_of (numbers i) (key_pick kind place keys) → key ≡ get_or keys i [] → v ≡ value_at place key →
    new ≡ (let c : Cells = record { kind = column.kind; cells = column.cells ++ of_kind column.kind v ∷ [] } in c) → new ≡ column_of (numbers (i + 1)) (key_pick kind place keys)
key-more kind keys place i column new key v e k h p =
    p ∙ (λ j. record { kind = (e j).kind; cells = (e j).cells ++ of_kind (e j).kind ((h ∙ ap (value_at place) k) j) ∷ [] }) ∙ sym (column-more (key_pick kind place keys) i)
