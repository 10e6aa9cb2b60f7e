-- The rolling sums of cells, by the window as it moves on.
use Rattle.std.proofs.Common.{◌≡◌, ℕ, zero, suc, ◌+◌, ◌-◌, ◌<◌, ◌≤◌, false, List, [], ◌∷◌, ◌++◌, map, take, drop, length, set, replicate, Option, Some, None, is_some, is_none, true≢false, ℤ, refl, sym, ap, ◌∙◌, arith, append_assoc, append-nil, length-append}
use Rattle.std.specs.Prelude.{slice_get}
use Rattle.std.specs.Option.{option_map}
use Rattle.std.specs.List.{range_with_len}
use Rattle.std.proofs.lemmas.List.{map-append, length-map, drop-drop, drop-set-lt, length-set}
use Rattle.std.proofs.Math.Seq.{take_all, take-suc-set, drop-append_seam}
use Rattle.std.proofs.lemmas.List.FromFn.{length-range_with_len}
use Rattle.circular_buffer.specs.Buffer.{keep_last}
use Rattle.fq_column.specs.declared.cells.Cell.{Cell}
use Rattle.fq_column.specs.declared.cells.Cell.TheVariants.{Whole}
use Rattle.fq_column.specs.Lists.{numbers, before_missing, first_missing}
use Rattle.fq_ops.specs.Roll.{rolled, rolled_at}
use Rattle.fq_ops.specs.Taken.{Window, HasTakenCells}
use Rattle.fq_ops.specs.Window.{sum_of_window, sums_along}
use Rattle.fq_column.specs.Column.{nullable}
use Rattle.fq_column.proofs.NameLemmas.{position-here, position-past}
use Rattle.fq_ops.proofs.JudgedFieldLemmas.{take-more}
use Rattle.fq_ops.proofs.WindowLemmas.{keep_last-append}

-- ---- numbers

range-more : (a n : ℕ) → range_with_len a (suc n) ≡ range_with_len a n ++ (a + n) ∷ []
range-more a zero = ap (λ k. k ∷ []) (let e : a ≡ a + 0 = omega arith in e)
range-more a (suc n) = ap (λ l. a ∷ l) (range-more (a + 1) n ∙ ap (λ k. range_with_len (a + 1) n ++ k ∷ []) (let e : a + 1 + n ≡ a + suc n = omega arith in e))

pub numbers-more : (n : ℕ) → numbers (n + 1) ≡ numbers n ++ n ∷ []
numbers-more n = ap numbers (let e : n + 1 ≡ suc n = omega arith in e) ∙ range-more 0 n ∙ ap (λ k. numbers n ++ k ∷ []) (let e : 0 + n ≡ n = omega arith in e)

pub map-range : {X : Type 0} (f g : ℕ → X) (a n : ℕ) → ((i : ℕ) → i < a + n → f i ≡ g i) → map f (range_with_len a n) ≡ map g (range_with_len a n)
map-range f g a zero h = refl
map-range f g a (suc n) h = λ i. h a (omega arith) i ∷ map-range f g (a + 1) n (λ j b. h j (omega (arith, b))) i

-- ---- one cell more

take-within : {X : Type 0} (n : ℕ) (xs ys : List X) → n ≤ length xs → take n (xs ++ ys) ≡ take n xs
take-within zero xs ys h = refl
take-within (suc n) [] ys h = absurd (omega (arith, h))
take-within (suc n) (x ∷ xs) ys h = ap (λ l. x ∷ l) (take-within n xs ys (omega (arith, h)))

module _ (n m : ℕ) where
  abbrev of_taken : ℕ → List Cell → Option Cell
  of_taken i cells = sum_of_window m (drop (suc i - n) cells)

  rolled-push : (cells : List Cell) (c : Cell) → rolled n m (cells ++ c ∷ []) ≡ rolled n m cells ++ sum_of_window m (keep_last n (cells ++ c ∷ [])) ∷ []
  rolled-push cells c =
      let all = cells ++ c ∷ [] in
      let one : length all ≡ length cells + 1 = length-append cells (c ∷ []) in
      ap (λ k. map (rolled_at n m all) (numbers k)) one
      ∙ ap (map (rolled_at n m all)) (numbers-more (length cells))
      ∙ map-append (rolled_at n m all) (numbers (length cells)) (length cells ∷ [])
      ∙ (λ i. map-range (rolled_at n m all) (rolled_at n m cells) 0 (length cells) (λ j b. ap (of_taken j) (take-within (suc j) cells (c ∷ []) (omega (arith, b)))) i
      ++ (ap (of_taken (length cells)) (take_all (suc (length cells)) all (omega (arith, one))) ∙ ap (λ k. sum_of_window m (drop (k - n) all)) (let e : suc (length cells) ≡ length all = omega (arith, one) in e)) i ∷ [])

  pub rolled-append : (cells more : List Cell) → rolled n m (cells ++ more) ≡ rolled n m cells ++ sums_along n m (keep_last n cells) more
  rolled-append cells [] = ap (rolled n m) (append-nil cells) ∙ sym (append-nil (rolled n m cells))
  rolled-append cells (c ∷ more) =
      let all = cells ++ c ∷ [] in
      ap (rolled n m) (sym (append_assoc cells (c ∷ []) more))
      ∙ rolled-append all more
      ∙ ap (λ l. l ++ sums_along n m (keep_last n all) more) (rolled-push cells c)
      ∙ append_assoc (rolled n m cells) (sum_of_window m (keep_last n all) ∷ []) (sums_along n m (keep_last n all) more)
      ∙ ap (λ w. rolled n m cells ++ (sum_of_window m w ∷ sums_along n m w more)) (sym (keep_last-append n cells (c ∷ [])))

  length-rolled : (cells : List Cell) → length (rolled n m cells) ≡ length cells
  length-rolled cells = length-map (numbers (length cells)) (rolled_at n m cells) ∙ length-range_with_len 0 (length cells)

  -- the sums that a column adds
  pub rolled-added : (cells more : List Cell) → drop (length cells) (rolled n m (cells ++ more)) ≡ sums_along n m (keep_last n cells) more
  rolled-added cells more =
      ap (drop (length cells)) (rolled-append cells more)
      ∙ ap (λ k. drop k (rolled n m cells ++ sums_along n m (keep_last n cells) more)) (sym (length-rolled cells))
      ∙ drop-append_seam (rolled n m cells) (sums_along n m (keep_last n cells) more)

-- ---- the first that is missing

pub missing-none : (xs : List (Option Cell)) → first_missing (None ∷ xs) ≡ Some 0
missing-none xs = position-here is_none None xs refl

pub missing-some : (c : Cell) (xs : List (Option Cell)) → first_missing (Some c ∷ xs) ≡ option_map suc (first_missing xs)
missing-some c xs = position-past is_none (Some c) xs refl

some-shifted : (o : Option ℕ) → is_some (option_map suc o) ≡ is_some o
some-shifted None = refl
some-shifted (Some k) = refl

-- whether a sum is missing among more sums
pub missing-append : (xs ys : List (Option Cell)) → is_some (first_missing xs) ≡ false → is_some (first_missing (xs ++ ys)) ≡ is_some (first_missing ys)
missing-append [] ys h = refl
missing-append (None ∷ xs) ys h =
    let clash : is_some {T = ℕ} (Some 0) ≡ false = sym (ap is_some (missing-none xs)) ∙ h in
    absurd (true≢false clash)
missing-append (Some c ∷ xs) ys h =
    ap is_some (missing-some c (xs ++ ys)) ∙ some-shifted (first_missing (xs ++ ys))
    ∙ missing-append xs ys (sym (ap is_some (missing-some c xs) ∙ some-shifted (first_missing xs)) ∙ h)

-- ---- the window after cells

abbrev pub slid_along : ℕ → List Cell → List Cell → List Cell
slid_along n w [] = w
slid_along n w (c ∷ cells) = slid_along n (keep_last n (w ++ c ∷ [])) cells

slid-push : (n : ℕ) (w cells : List Cell) (c : Cell) → slid_along n w (cells ++ c ∷ []) ≡ keep_last n (slid_along n w cells ++ c ∷ [])
slid-push n w [] c = refl
slid-push n w (d ∷ cells) c = slid-push n (keep_last n (w ++ d ∷ [])) cells c

pub slid-all : (n : ℕ) (before cells : List Cell) → slid_along n (keep_last n before) cells ≡ keep_last n (before ++ cells)
slid-all n before [] = ap (keep_last n) (sym (append-nil before))
slid-all n before (c ∷ cells) =
    ap (λ w. slid_along n w cells) (keep_last-append n before (c ∷ [])) ∙ slid-all n (before ++ c ∷ []) cells ∙ ap (keep_last n) (append_assoc before (c ∷ []) cells)

pub slid-more : (n : ℕ) (w : List Cell) (places : List (Option ℤ)) (i : ℕ) (place : Option ℤ) → slice_get places i ≡ Some place →
    slid_along n w (map (nullable Whole) (take (i + 1) places)) ≡ keep_last n (slid_along n w (map (nullable Whole) (take i places)) ++ nullable Whole place ∷ [])
slid-more n w places i place e =
    ap (λ l. slid_along n w (map (nullable Whole) l)) (take-more places i place e)
    ∙ ap (slid_along n w) (map-append (nullable Whole) (take i places) (place ∷ []))
    ∙ slid-push n w (map (nullable Whole) (take i places)) (nullable Whole place)

-- ---- the sums so far and those to come

drop-at : {X Y : Type 0} (f : X → Y) (xs : List X) (i : ℕ) (x : X) → slice_get xs i ≡ Some x → drop i (map f xs) ≡ f x ∷ drop (suc i) (map f xs)
drop-at f [] i x e = absurd (cc)
drop-at f (y ∷ xs) zero x e = let s : y ≡ x = cc in ap (λ z. f z ∷ map f xs) s
drop-at f (y ∷ xs) (suc i) x e = drop-at f xs i x e

shifted-more : (i : ℕ) (o : Option ℕ) → option_map (λ k. i + k) (option_map suc o) ≡ option_map (λ k. i + 1 + k) o
shifted-more i None = refl
shifted-more i (Some k) = ap Some (let e : i + suc k ≡ i + 1 + k = omega arith in e)

-- what has been made of cells so far, and what is to come
pub record IsSummed (n m : ℕ) (first w : List Cell) (places : List (Option ℤ)) (i : ℕ) (done : List (Option ℤ)) : Type 0 where
  pub before : before_missing (sums_along n m first (map (nullable Whole) places)) ≡ map (nullable Whole) done ++ before_missing (sums_along n m w (drop i (map (nullable Whole) places)))
  pub fault : first_missing (sums_along n m first (map (nullable Whole) places)) ≡ option_map (λ k. i + k) (first_missing (sums_along n m w (drop i (map (nullable Whole) places))))

module _ (n m : ℕ) (first w : List Cell) (places : List (Option ℤ)) (i : ℕ) (done : List (Option ℤ)) (h : IsSummed n m first w places i done) (place : Option ℤ) (at : slice_get places i ≡ Some place) where
  abbrev later : List Cell
  later = drop (suc i) (map (nullable Whole) places)

  abbrev moved : List Cell
  moved = keep_last n (w ++ nullable Whole place ∷ [])

  to_come : sums_along n m w (drop i (map (nullable Whole) places)) ≡ sum_of_window m moved ∷ sums_along n m moved later
  to_come = ap (sums_along n m w) (drop-at (nullable Whole) places i place at)

  module _ (sum : Option ℤ) (s : sum_of_window m moved ≡ Some (nullable Whole sum)) where
    next : sums_along n m w (drop i (map (nullable Whole) places)) ≡ Some (nullable Whole sum) ∷ sums_along n m moved later
    next = to_come ∙ ap (λ o. o ∷ sums_along n m moved later) s

    pub summed-more : IsSummed n m first moved places (i + 1) (done ++ sum ∷ [])
    summed-more = record {
      before = h.before ∙ ap (λ l. map (nullable Whole) done ++ before_missing l) next
          ∙ sym (append_assoc (map (nullable Whole) done) (nullable Whole sum ∷ []) (before_missing (sums_along n m moved later)))
          ∙ ap (λ l. l ++ before_missing (sums_along n m moved later)) (sym (map-append (nullable Whole) done (sum ∷ [])))
          ∙ ap (λ j. map (nullable Whole) (done ++ sum ∷ []) ++ before_missing (sums_along n m moved (drop j (map (nullable Whole) places)))) (let e : suc i ≡ i + 1 = omega arith in e);
      fault = h.fault ∙ ap (λ l. option_map (λ k. i + k) (first_missing l)) next
          ∙ ap (option_map (λ k. i + k)) (missing-some (nullable Whole sum) (sums_along n m moved later))
          ∙ shifted-more i (first_missing (sums_along n m moved later))
          ∙ ap (λ j. option_map (λ k. i + 1 + k) (first_missing (sums_along n m moved (drop j (map (nullable Whole) places))))) (let e : suc i ≡ i + 1 = omega arith in e);
    }

  module _ (s : sum_of_window m moved ≡ None) where
    pub summed-before : before_missing (sums_along n m first (map (nullable Whole) places)) ≡ map (nullable Whole) done
    summed-before = h.before ∙ ap (λ l. map (nullable Whole) done ++ before_missing l) (to_come ∙ ap (λ o. o ∷ sums_along n m moved later) s) ∙ append-nil (map (nullable Whole) done)

    pub summed-fault : first_missing (sums_along n m first (map (nullable Whole) places)) ≡ Some i
    summed-fault =
        h.fault ∙ ap (λ l. option_map (λ k. i + k) (first_missing l)) (to_come ∙ ap (λ o. o ∷ sums_along n m moved later) s)
        ∙ ap (option_map (λ k. i + k)) (missing-none (sums_along n m moved later)) ∙ ap Some (let e : i + 0 ≡ i = omega arith in e)

-- all cells are summed
pub summed-all : (n m : ℕ) (first w : List Cell) (places : List (Option ℤ)) (i : ℕ) (done : List (Option ℤ)) → IsSummed n m first w places i done → length places ≤ i →
    (before_missing (sums_along n m first (map (nullable Whole) places)) ≡ map (nullable Whole) done) × (first_missing (sums_along n m first (map (nullable Whole) places)) ≡ None)
summed-all n m first w places i done h past =
    let none : drop i (map (nullable Whole) places) ≡ [] = drop-past i (map (nullable Whole) places) (omega (arith, past, length-map places (nullable Whole))) in (
      h.before ∙ ap (λ l. map (nullable Whole) done ++ before_missing (sums_along n m w l)) none ∙ append-nil (map (nullable Whole) done),
      h.fault ∙ ap (λ l. option_map (λ k. i + k) (first_missing (sums_along n m w l))) none,
    )
  where
    drop-past : {X : Type 0} (j : ℕ) (xs : List X) → length xs ≤ j → drop j xs ≡ []
    drop-past zero [] b = refl
    drop-past zero (x ∷ xs) b = absurd (omega (arith, b))
    drop-past (suc j) [] b = refl
    drop-past (suc j) (x ∷ xs) b = drop-past j xs (omega (arith, b))

-- ---- the sums' array, of which the places from i on have no value yet

pub record IsFilled (count i : ℕ) (sums : List (Option ℤ)) : Type 0 where
  pub size : length sums ≡ count
  pub rest : drop i sums ≡ replicate (count - i) None

module _ (count i : ℕ) (sums : List (Option ℤ)) (h : IsFilled count i sums) (low : i < count) where
  none-left : drop i sums ≡ None ∷ replicate (count - (i + 1)) None
  none-left = h.rest ∙ ap (λ k. replicate k None) (let e : count - i ≡ suc (count - (i + 1)) = omega (arith, low) in e)

  drop-next : {X : Type 0} (xs ys : List X) (x : X) (j : ℕ) → drop j xs ≡ x ∷ ys → drop (j + 1) xs ≡ ys
  drop-next xs ys x j e = sym (drop-drop 1 j xs) ∙ ap (drop 1) e

  take-next : {X : Type 0} (xs ys : List X) (x : X) (j : ℕ) → drop j xs ≡ x ∷ ys → take (j + 1) xs ≡ take j xs ++ x ∷ []
  take-next [] ys x zero e = absurd (cc)
  take-next [] ys x (suc j) e = absurd (cc)
  take-next (y ∷ xs) ys x zero e = let s : y ≡ x = cc in ap (λ z. z ∷ []) s
  take-next (y ∷ xs) ys x (suc j) e = ap (λ k. take k (y ∷ xs)) (let f : suc j + 1 ≡ suc (j + 1) = omega arith in f) ∙ ap (λ l. y ∷ l) (take-next xs ys x j e)

  pub filled-none : IsFilled count (i + 1) sums × (take (i + 1) sums ≡ take i sums ++ None ∷ [])
  filled-none = (record { size = h.size; rest = drop-next sums (replicate (count - (i + 1)) None) None i none-left }, take-next sums (replicate (count - (i + 1)) None) None i none-left)

  pub filled-some : (sum : Option ℤ) → IsFilled count (i + 1) (set sums i sum) × (take (i + 1) (set sums i sum) ≡ take i sums ++ sum ∷ [])
  filled-some sum = (
    record {
      size = length-set sums i sum ∙ h.size;
      rest = drop-set-lt (i + 1) sums i sum (omega arith) ∙ drop-next sums (replicate (count - (i + 1)) None) None i none-left;
    },
    ap (λ k. take k (set sums i sum)) (let f : i + 1 ≡ suc i = omega arith in f) ∙ take-suc-set sums i sum (omega (arith, low, h.size)),
  )

-- ---- what has been taken

module _ (r : Window) (cells more : List Cell) (h : HasTakenCells r cells) (ok : r.faulted ≡ false) where
  -- the sums that a column adds, from the window so far
  pub added : drop (length cells) (rolled r.window r.min_samples (cells ++ more)) ≡ sums_along r.window r.min_samples r.last more
  added = rolled-added r.window r.min_samples cells more ∙ ap (λ w. sums_along r.window r.min_samples w more) (sym (h.last ok))

  pub faulted-added : is_some (first_missing (rolled r.window r.min_samples (cells ++ more))) ≡ is_some (first_missing (sums_along r.window r.min_samples r.last more))
  faulted-added =
      ap (λ l. is_some (first_missing l)) (rolled-append r.window r.min_samples cells more)
      ∙ missing-append (rolled r.window r.min_samples cells) (sums_along r.window r.min_samples (keep_last r.window cells) more) (sym h.faulted ∙ ok)
      ∙ ap (λ w. is_some (first_missing (sums_along r.window r.min_samples w more))) (sym (h.last ok))
