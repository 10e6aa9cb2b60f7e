-- What holds of each aggregate function: its running value is the aggregate of its cells, its aggregates are of its kind, and its
-- running values are bounded by the number of rows.
use Rattle.std.proofs.Common.{◌≡◌, ℕ, zero, suc, ◌+◌, ◌-◌, ◌*◌, ◌^◌, ◌≤◌, map, Bool, true, false, not, cond, List, [], ◌∷◌, ◌++◌, fold, get_or, length, ℤ, pos, ◌+ℤ◌, Option, Some, None, Result, Ok, unwrap_or, refl, sym, ap, subst, ◌∙◌, if◌then◌else◌, arith, append_assoc, append-nil}
use Rattle.std.specs.Ordering.{is_lt, is_gt}
use Rattle.std.specs.List.{reduce}
use Rattle.std.specs.Prelude.{slice_index_or, is_some}
use Rattle.std.proofs.lemmas.Int.{ints}
use Rattle.fq_column.specs.declared.cells.Cell.{Cell}
use Rattle.fq_column.specs.declared.cells.Cell.TheVariants.{Null, Whole, Text, Truth}
use Rattle.fq_column.specs.declared.cells.Kind.{Kind}
use Rattle.fq_column.specs.declared.cells.Kind.TheVariants as kind
use Rattle.fq_column.specs.declared.faults.StepFault.{StepFault}
use Rattle.fq_column.specs.Cell.{is_null, cell_cmp, fits, fitted, has_kind, same_cell}
use Rattle.fq_column.specs.Column.{nullable}
use Rattle.fq_column.specs.Frame.{value_at}
use Rattle.fq_ops.specs.declared.aggregates.Function.{Function}
use Rattle.fq_ops.specs.declared.aggregates.Function.TheVariants as function
use Rattle.fq_ops.specs.declared.accumulators.States.{States}
use Rattle.fq_ops.specs.declared.accumulators.States.TheVariants.{Sum as Sums, Min as Leasts, Max as Greatests, Count as Counts, Len as Lens, First as Firsts, Last as Lasts, NUnique as NUniques}
use Rattle.fq_ops.specs.Aggregate.{wholes, int_sum, kind_over, must_be_whole, value_of, values, least, greatest, count, first_seen}
use Rattle.fq_ops.specs.Running.{AggregateState, Sum, Min, Max, Count, Len, First, Last, NUnique, IsBoundedBy, addend, lesser, greater, running_in, start_of, stepped, finished}
use Rattle.fq_ops.proofs.GroupLemmas.{first_seen-push, same_cell_laws}
use Rattle.fq_ops.proofs.ProbeLemmas.{AllIn}

-- ---- what a cell that is not a whole number adds

pub addend-other : {X : Type 0} (make : X → Cell) → ((x : X) → addend (make x) ≡ pos 0) → (array : List (Option X)) (row : ℕ) → addend (value_at row (map (nullable make) array)) ≡ pos 0
addend-other make none [] row = refl
addend-other make none (None ∷ array) zero = refl
addend-other make none (Some x ∷ array) zero = none x
addend-other make none (o ∷ array) (suc row) = addend-other make none array row

-- ---- sums and counts

add-none : (total : ℤ) → total +ℤ pos 0 ≡ total
add-none total = omega (arith, ints)

pub sum-along : (total : ℤ) (cells : List Cell) → fold stepped (Sum total) cells ≡ Sum (fold (λ a n. a +ℤ n) total (wholes cells))
sum-along total [] = refl
sum-along total (Null ∷ cells) = ap (λ t. fold stepped (Sum t) cells) (add-none total) ∙ sum-along total cells
sum-along total (Whole n ∷ cells) = sum-along (total +ℤ n) cells
sum-along total (Text t ∷ cells) = ap (λ t. fold stepped (Sum t) cells) (add-none total) ∙ sum-along total cells
sum-along total (Truth b ∷ cells) = ap (λ t. fold stepped (Sum t) cells) (add-none total) ∙ sum-along total cells

sum-finished : (cells : List Cell) → finished (fold stepped (Sum (pos 0)) cells) ≡ fitted (int_sum (wholes cells))
sum-finished cells = ap finished (sum-along (pos 0) cells)

pub len-along : (n : ℕ) (cells : List Cell) → fold stepped (Len n) cells ≡ Len (n + length cells)
len-along n [] = ap Len (let e : n ≡ n + 0 = omega arith in e)
len-along n (c ∷ cells) = len-along (n + 1) cells ∙ ap Len (let e : n + 1 + length cells ≡ n + suc (length cells) = omega arith in e)

pub len-finished : (cells : List Cell) → finished (fold stepped (Len 0) cells) ≡ Some (count cells)
len-finished cells = ap finished (len-along 0 cells) ∙ ap (λ n. Some (Whole (pos n))) (let e : 0 + length cells ≡ length cells = omega arith in e)

pub count-along : (n : ℕ) (cells : List Cell) → fold stepped (Count n) cells ≡ Count (n + length (values cells))
count-along n [] = ap Count (let e : n ≡ n + 0 = omega arith in e)
count-along n (c ∷ cells) = by (is_null c) refl (count-along n cells) (count-along (n + 1) cells)
  where
    by : (b : Bool) → is_null c ≡ b → fold stepped (Count n) cells ≡ Count (n + length (values cells)) → fold stepped (Count (n + 1)) cells ≡ Count (n + 1 + length (values cells)) →
        fold stepped (Count n) (c ∷ cells) ≡ Count (n + length (values (c ∷ cells)))
    by true e same more = ap (λ b. fold stepped (Count (if b then n else n + 1)) cells) e ∙ same ∙ sym (ap (λ b. Count (n + length (cond (not b) (c ∷ values cells) (values cells)))) e)
    by false e same more = ap (λ b. fold stepped (Count (if b then n else n + 1)) cells) e ∙ more ∙ ap Count (let e : n + 1 + length (values cells) ≡ n + suc (length (values cells)) = omega arith in e) ∙ sym (ap (λ b. Count (n + length (cond (not b) (c ∷ values cells) (values cells)))) e)

count-finished : (cells : List Cell) → finished (fold stepped (Count 0) cells) ≡ Some (count (values cells))
count-finished cells = ap finished (count-along 0 cells) ∙ ap (λ n. Some (Whole (pos n))) (let e : 0 + length (values cells) ≡ length (values cells) = omega arith in e)

-- ---- the least and the greatest

module _ (wins : Cell → Cell → Bool) where
  -- the better of two cells, where null is not a value
  abbrev pub better : Cell → Cell → Cell
  better best cell = if is_null cell then best else if is_null best then cell else if wins cell best then cell else best

  abbrev winner : Cell → Cell → Cell
  winner a b = if wins b a then b else a

  -- from a value that is not null on
  best-along : (best : Cell) → is_null best ≡ false → (cells : List Cell) → fold better best cells ≡ fold winner best (values cells)
  best-along best z [] = refl
  best-along best z (c ∷ cells) = by (is_null c) refl (wins c best) refl (best-along best z cells) (λ f. best-along c f cells)
    where
      by : (b : Bool) → is_null c ≡ b → (l : Bool) → wins c best ≡ l → fold better best cells ≡ fold winner best (values cells) → (is_null c ≡ false → fold better c cells ≡ fold winner c (values cells)) →
          fold better best (c ∷ cells) ≡ fold winner best (values (c ∷ cells))
      by true e l f same more = ap (λ b. fold better (if b then best else if is_null best then c else if wins c best then c else best) cells) e ∙ same ∙ sym (ap (λ b. fold winner best (cond (not b) (c ∷ values cells) (values cells))) e)
      by false e l f same more =
          ap (λ b. fold better (if b then best else if is_null best then c else if wins c best then c else best) cells) e
          ∙ ap (λ b. fold better (if b then c else if wins c best then c else best) cells) z
          ∙ lead l f
          ∙ sym (ap (λ b. fold winner best (cond (not b) (c ∷ values cells) (values cells))) e)
        where
          lead : (l : Bool) → wins c best ≡ l → fold better (winner best c) cells ≡ fold winner (winner best c) (values cells)
          lead true f = ap (λ b. fold better (if b then c else best) cells) f ∙ more e ∙ sym (ap (λ b. fold winner (if b then c else best) (values cells)) f)
          lead false f = ap (λ b. fold better (if b then c else best) cells) f ∙ same ∙ sym (ap (λ b. fold winner (if b then c else best) (values cells)) f)

  -- from no value on
  pub best-all : (cells : List Cell) → fold better Null cells ≡ unwrap_or (reduce winner (values cells)) Null
  best-all [] = refl
  best-all (Null ∷ cells) = best-all cells
  best-all (Whole n ∷ cells) = best-along (Whole n) refl cells
  best-all (Text t ∷ cells) = best-along (Text t) refl cells
  best-all (Truth b ∷ cells) = best-along (Truth b) refl cells

pub min-along : (best : Cell) (cells : List Cell) → fold stepped (Min best) cells ≡ Min (fold lesser best cells)
min-along best [] = refl
min-along best (c ∷ cells) = min-along (lesser best c) cells

pub max-along : (best : Cell) (cells : List Cell) → fold stepped (Max best) cells ≡ Max (fold greater best cells)
max-along best [] = refl
max-along best (c ∷ cells) = max-along (greater best c) cells

min-finished : (cells : List Cell) → finished (fold stepped (Min Null) cells) ≡ Some (least cells)
min-finished cells = ap finished (min-along Null cells) ∙ ap Some (best-all (λ a b. is_lt (cell_cmp a b)) cells)

max-finished : (cells : List Cell) → finished (fold stepped (Max Null) cells) ≡ Some (greatest cells)
max-finished cells = ap finished (max-along Null cells) ∙ ap Some (best-all (λ a b. is_gt (cell_cmp a b)) cells)

-- ---- the first and the last

pub first-along : (first : Cell) (cells : List Cell) → fold stepped (First (Some first)) cells ≡ First (Some first)
first-along first [] = refl
first-along first (c ∷ cells) = first-along first cells

first-finished : (cells : List Cell) → finished (fold stepped (First None) cells) ≡ Some (slice_index_or cells 0 Null)
first-finished [] = refl
first-finished (c ∷ cells) = ap finished (first-along c cells)

pub last-along : (last : Cell) (cells : List Cell) → fold stepped (Last last) cells ≡ Last (slice_index_or (last ∷ cells) (length cells) Null)
last-along last [] = refl
last-along last (c ∷ cells) = last-along c cells

last-finished : (cells : List Cell) → finished (fold stepped (Last Null) cells) ≡ Some (slice_index_or cells (length cells - 1) Null)
last-finished [] = refl
last-finished (c ∷ cells) = ap finished (last-along c cells) ∙ ap (λ i. Some (slice_index_or (c ∷ cells) i Null)) (let e : length cells ≡ suc (length cells) - 1 = omega arith in e)

-- ---- the distinct cells

unique-along : (before cells : List Cell) → fold stepped (NUnique (first_seen same_cell before)) cells ≡ NUnique (first_seen same_cell (before ++ cells))
unique-along before [] = ap (λ l. NUnique (first_seen same_cell l)) (sym (append-nil before))
unique-along before (c ∷ cells) =
    ap (λ l. fold stepped (NUnique l) cells) (sym (first_seen-push same_cell same_cell_laws before c))
    ∙ unique-along (before ++ c ∷ []) cells
    ∙ ap (λ l. NUnique (first_seen same_cell l)) (append_assoc before (c ∷ []) cells)

unique-finished : (cells : List Cell) → finished (fold stepped (NUnique []) cells) ≡ Some (count (first_seen same_cell cells))
unique-finished cells = ap finished (unique-along [] cells)

-- ---- each function

pub all-finished : (f : Function) (cells : List Cell) → finished (fold stepped (start_of f) cells) ≡ value_of f cells
all-finished function.Sum cells = sum-finished cells
all-finished function.Min cells = min-finished cells
all-finished function.Max cells = max-finished cells
all-finished function.Count cells = count-finished cells
all-finished function.Len cells = len-finished cells
all-finished function.First cells = first-finished cells
all-finished function.Last cells = last-finished cells
all-finished function.NUnique cells = unique-finished cells

-- ---- values are of their kinds

abbrev pub Fitting : Kind → Cell → Type 0
Fitting k c = has_kind k c ≡ true

fitting-at : (k : Kind) (cells : List Cell) → AllIn (Fitting k) cells → (i : ℕ) → has_kind k (get_or cells i Null) ≡ true
fitting-at k [] h i = refl
fitting-at k (c ∷ cells) h zero = h.0
fitting-at k (c ∷ cells) h (suc i) = fitting-at k cells h.1 i

one-of : (k : Kind) (b : Bool) (x y : Cell) → Fitting k x → Fitting k y → Fitting k (if b then x else y)
one-of k true x y h g = h
one-of k false x y h g = g

module _ (wins : Cell → Cell → Bool) where
  abbrev picked : Cell → Cell → Cell
  picked best cell = if is_null cell then best else if is_null best then cell else if wins cell best then cell else best

  picked-fits : (k : Kind) (best : Cell) (cells : List Cell) → Fitting k best → AllIn (Fitting k) cells → Fitting k (fold picked best cells)
  picked-fits k best [] b h = b
  picked-fits k best (c ∷ cells) b h =
      let pick = one-of k (is_null c) best (if is_null best then c else if wins c best then c else best) b
      (one-of k (is_null best) c (if wins c best then c else best) h.0 (one-of k (wins c best) c best h.0 b)) in
      picked-fits k (picked best c) cells pick h.1

fitted-fits : (z : ℤ) → has_kind kind.Whole (unwrap_or (fitted z) Null) ≡ true
fitted-fits z = by (fits z) refl
  where
    by : (b : Bool) → fits z ≡ b → has_kind kind.Whole (unwrap_or (fitted z) Null) ≡ true
    by true e = ap (λ b. has_kind kind.Whole (unwrap_or (if b then Some (Whole z) else None) Null)) e
    by false e = ap (λ b. has_kind kind.Whole (unwrap_or (if b then Some (Whole z) else None) Null)) e

whole-only : (j k : Kind) → must_be_whole j ≡ Ok k → k ≡ kind.Whole
whole-only kind.Whole k e = let same : Ok kind.Whole ≡ Ok k = e in cc
whole-only kind.Text k e = absurd (cc)
whole-only kind.Truth k e = absurd (cc)

pub same-kind : (j k : Kind) → ◌≡◌ {A = Result Kind StepFault} (Ok j) (Ok k) → j ≡ k
same-kind j k e = cc

pub whole-fits : (k : Kind) (c : Cell) → k ≡ kind.Whole → has_kind kind.Whole c ≡ true → has_kind k c ≡ true
whole-fits k c e h = ap (λ l. has_kind l c) e ∙ h

module _ (j k : Kind) (cells : List Cell) (fit : AllIn (Fitting j) cells) where
  same-fit : ◌≡◌ {A = Result Kind StepFault} (Ok j) (Ok k) → AllIn (Fitting k) cells
  same-fit e = subst (λ l. AllIn (Fitting l) cells) (same-kind j k e) fit

  -- what a function makes of cells of a kind is of the function's kind over it
  pub value-fits : (f : Function) → kind_over f j ≡ Ok k → has_kind k (unwrap_or (value_of f cells) Null) ≡ true
  value-fits function.Sum e = whole-fits k (unwrap_or (fitted (int_sum (wholes cells))) Null) (whole-only j k e) (fitted-fits (int_sum (wholes cells)))
  value-fits function.Min e = ap (has_kind k) (sym (best-all (λ a b. is_lt (cell_cmp a b)) cells)) ∙ picked-fits (λ a b. is_lt (cell_cmp a b)) k Null cells refl (same-fit e)
  value-fits function.Max e = ap (has_kind k) (sym (best-all (λ a b. is_gt (cell_cmp a b)) cells)) ∙ picked-fits (λ a b. is_gt (cell_cmp a b)) k Null cells refl (same-fit e)
  value-fits function.Count e = whole-fits k (count (values cells)) (sym (same-kind kind.Whole k e)) refl
  value-fits function.Len e = whole-fits k (count cells) (sym (same-kind kind.Whole k e)) refl
  value-fits function.First e = fitting-at k cells (same-fit e) 0
  value-fits function.Last e = fitting-at k cells (same-fit e) (length cells - 1)
  value-fits function.NUnique e = whole-fits k (count (first_seen same_cell cells)) (sym (same-kind kind.Whole k e)) refl

-- ---- how far running values can be

more : (n m : ℕ) → n ≤ m → n * 2 ^ 63 ≤ m * 2 ^ 63
more n m h = omega (arith, h)

pub IsBoundedBy-more : (n m : ℕ) → n ≤ m → (r : AggregateState) → IsBoundedBy n r → IsBoundedBy m r
IsBoundedBy-more n m h (Sum total) b = record { low = omega (arith, ints, b.low, more n m h); high = omega (arith, ints, b.high, more n m h) }
IsBoundedBy-more n m h (Min best) b = tt
IsBoundedBy-more n m h (Max best) b = tt
IsBoundedBy-more n m h (Count k) b = omega (arith, b, h)
IsBoundedBy-more n m h (Len k) b = omega (arith, b, h)
IsBoundedBy-more n m h (First first) b = tt
IsBoundedBy-more n m h (Last last) b = tt
IsBoundedBy-more n m h (NUnique cells) b = omega (arith, b, h)

pub start-bounded : (n : ℕ) (f : Function) → IsBoundedBy n (start_of f)
start-bounded n function.Sum = record { low = omega (arith, ints); high = omega (arith, ints) }
start-bounded n function.Min = tt
start-bounded n function.Max = tt
start-bounded n function.Count = omega arith
start-bounded n function.Len = omega arith
start-bounded n function.First = tt
start-bounded n function.Last = tt
start-bounded n function.NUnique = omega arith

-- ---- values that always fit

all-fit : {X : Type 0} (run : X → AggregateState) → ((x : X) → is_some (finished (run x)) ≡ true) → (xs : List X) (k : ℕ) → is_some (finished (slice_index_or (map run xs) k (Len 0))) ≡ true
all-fit run h [] k = refl
all-fit run h (x ∷ xs) zero = h x
all-fit run h (x ∷ xs) (suc k) = all-fit run h xs k

-- no value but a sum may not fit
pub others-fit : (s : States) (k : ℕ) → ((xs : _) → s ≡ Sums xs → ⊥) → is_some (finished (slice_index_or (running_in s) k (Len 0))) ≡ true
others-fit (Sums xs) k other = absurd (other xs refl)
others-fit (Leasts xs) k other = all-fit _ (λ s. refl) xs.items k
others-fit (Greatests xs) k other = all-fit _ (λ s. refl) xs.items k
others-fit (Counts xs) k other = all-fit _ (λ s. refl) xs.items k
others-fit (Lens xs) k other = all-fit _ (λ s. refl) xs.items k
others-fit (Firsts xs) k other = all-fit _ (λ s. refl) xs.items k
others-fit (Lasts xs) k other = all-fit _ (λ s. refl) xs.items k
others-fit (NUniques xs) k other = all-fit _ (λ s. refl) xs.items k
