-- The running values of groups after more rows.
use Rattle.std.proofs.Common.{◌≡◌, ℕ, zero, suc, ◌+◌, ◌-◌, ◌<◌, ◌≤◌, List, [], ◌∷◌, ◌++◌, Ok, Err, drop, fold, get_or, inl, inr, set, length, map, replicate, take, zip, refl, sym, ap, subst, ◌∙◌, arith, append_assoc, length-append}
use Rattle.std.specs.Prelude.{All, OnOk, Result}
use Rattle.std.specs.List.{position_or_len}
use Rattle.std.proofs.Math.Seq.{take-suc}
use Rattle.std.proofs.lemmas.Bool.{cases_lt}
use Rattle.indexmap.specs.IndexSet.{insert_all, insert_key}
use Rattle.std.proofs.lemmas.List.{length-set, length-replicate, map-append}
use Rattle.std.proofs.lemmas.List.Elements.{All-append, All-replicate}
use Rattle.std.proofs.lemmas.List.Sums.{fold-append}
use Rattle.fq_column.specs.declared.cells.Cell.{Cell}
use Rattle.fq_ops.specs.Accumulated.{HaveTaken, numbers_along, padded, stepped_along, stepped_at}
use Rattle.fq_ops.specs.declared.aggregates.Function.{Function}
use Rattle.fq_ops.specs.Group.{same_key}
use Rattle.fq_ops.specs.Running.{AggregateState, Len, IsBoundedBy, start_of, stepped}
use Rattle.fq_ops.proofs.GroupLemmas.{length-insert_key, position-within}
use Rattle.fq_ops.proofs.RunningLemmas.{IsBoundedBy-more, start-bounded}

-- ---- bounds

pub all-more : (n m : ℕ) → n ≤ m → (rs : List AggregateState) → All (IsBoundedBy n) rs → All (IsBoundedBy m) rs
all-more n m h rs all k d low = IsBoundedBy-more n m h (get_or rs k d) (all k d low)

-- new groups have taken no row
pub padded-bounded : (n count : ℕ) (f : Function) (xs : List AggregateState) → All (IsBoundedBy n) xs → All (IsBoundedBy n) (padded count (start_of f) xs)
padded-bounded n count f xs h =
    All-append (IsBoundedBy n) xs (replicate (count - length xs) (start_of f)) h (All-replicate (IsBoundedBy n) (count - length xs) (start_of f) (start-bounded n f))

pub taken-padded : {T E : Type 0} (r : Result T E) (count groups : ℕ) (f : Function) (old grown new : List AggregateState) → grown ≡ padded groups (start_of f) old →
    OnOk r (HaveTaken count grown new) → OnOk r (HaveTaken count old new)
taken-padded (Ok x) count groups f old grown new e taken = record { bounded = λ n h. taken.bounded n (subst (All (IsBoundedBy n)) (sym e) (padded-bounded n groups f old h)) }
taken-padded (Err refused) count groups f old grown new e taken = tt

-- ---- one row more

replicate-push : {X : Type 0} (n : ℕ) (x : X) → replicate (suc n) x ≡ replicate n x ++ x ∷ []
replicate-push zero x = refl
replicate-push (suc n) x = ap (λ l. x ∷ l) (replicate-push n x)

pub padded-more : {X : Type 0} (xs : List X) (n : ℕ) (x : X) → length xs ≤ n → padded (n + 1) x xs ≡ padded n x xs ++ x ∷ []
padded-more xs n x h =
    ap (λ k. xs ++ replicate k x) (let e : n + 1 - length xs ≡ suc (n - length xs) = omega (arith, h) in e)
    ∙ ap (λ l. xs ++ l) (replicate-push (n - length xs) x)
    ∙ sym (append_assoc xs (replicate (n - length xs) x) (x ∷ []))

zip-more : {X Y : Type 0} (xs : List X) (ys : List Y) (i : ℕ) (d : X) (e : Y) → i < length xs → length xs ≡ length ys →
    zip (take (suc i) xs) (take (suc i) ys) ≡ zip (take i xs) (take i ys) ++ (get_or xs i d, get_or ys i e) ∷ []
zip-more [] ys i d e low h = absurd (omega (arith, low))
zip-more (x ∷ xs) [] i d e low h = absurd (omega (arith, h))
zip-more (x ∷ xs) (y ∷ ys) zero d e low h = refl
zip-more (x ∷ xs) (y ∷ ys) (suc i) d e low h = ap (λ l. (x, y) ∷ l) (zip-more xs ys i d e (omega (arith, low)) (omega (arith, h)))

pub stepped-more : (states : List AggregateState) (numbers : List ℕ) (cells : List Cell) (i d : ℕ) (e : Cell) → i < length numbers → length numbers ≡ length cells →
    stepped_along states (take (i + 1) numbers) (take (i + 1) cells) ≡ stepped_at (stepped_along states (take i numbers) (take i cells)) (get_or numbers i d, get_or cells i e)
stepped-more states numbers cells i d e low h =
    ap (λ j. stepped_along states (take j numbers) (take j cells)) (let f : i + 1 ≡ suc i = omega arith in f)
    ∙ ap (fold stepped_at states) (zip-more numbers cells i d e low h)
    ∙ fold-append stepped_at states (zip (take i numbers) (take i cells)) ((get_or numbers i d, get_or cells i e) ∷ [])

pub length-stepped : (states : List AggregateState) (numbers : List ℕ) (cells : List Cell) → length (stepped_along states numbers cells) ≡ length states
length-stepped states [] cells = refl
length-stepped states (n ∷ numbers) [] = refl
length-stepped states (n ∷ numbers) (c ∷ cells) =
    length-stepped (stepped_at states (n, c)) numbers cells ∙ length-set states n (stepped (get_or states n (Len 0)) c)

pub length-padded : {X : Type 0} (n : ℕ) (x : X) (xs : List X) → length xs ≤ n → length (padded n x xs) ≡ n
length-padded n x xs h = length-append xs (replicate (n - length xs) x) ∙ ap (λ k. length xs + k) (length-replicate (n - length xs) x) ∙ omega (arith, h)

-- ---- the numbers of keys

pub insert-push : (seen keys : List (List Cell)) (k : List Cell) → insert_all same_key seen (keys ++ k ∷ []) ≡ insert_key same_key (insert_all same_key seen keys) k
insert-push seen keys k = fold-append (insert_key same_key) seen keys (k ∷ [])

pub numbers-push : (seen keys : List (List Cell)) (k : List Cell) → numbers_along seen (keys ++ k ∷ []) ≡ numbers_along seen keys ++ position_or_len (same_key k) (insert_all same_key seen keys) ∷ []
numbers-push seen [] k = refl
numbers-push seen (a ∷ keys) k = ap (λ l. position_or_len (same_key a) seen ∷ l) (numbers-push (insert_key same_key seen a) keys k)

pub keys-more : {X Y : Type 0} (f : X → Y) (rows : List X) (i : ℕ) (d : X) → i < length rows → map f (take (i + 1) rows) ≡ map f (take i rows) ++ f (get_or rows i d) ∷ []
keys-more f rows i d low =
    ap (λ j. map f (take j rows)) (let e : i + 1 ≡ suc i = omega arith in e) ∙ ap (map f) (take-suc rows i d low) ∙ map-append f (take i rows) (get_or rows i d ∷ [])

pub insert-grows : (seen : List (List Cell)) (k : List Cell) → length seen ≤ length (insert_key same_key seen k)
insert-grows seen k =
    let grows = length-insert_key same_key k seen in
    elim (cases_lt (position_or_len (same_key k) seen) (length seen)) [
      | inl l ↦ omega (arith, grows.1 l)
      | inr g ↦ omega (arith, grows.0 (omega (arith, g, position-within (same_key k) seen)))
    ]

pub all-below : (n m : ℕ) → n ≤ m → (xs : List ℕ) → All (λ x. x < n) xs → All (λ x. x < m) xs
all-below n m h xs all k d low = omega (arith, all k d low, h)

-- ---- a list that is changed item by item

module _ {X : Type 0} (f : X → X) where
  changed : (xs : List X) (i : ℕ) (d : X) → i < length xs → let zs = map f (take i xs) ++ drop i xs in set zs i (f (get_or zs i d)) ≡ map f (take (suc i) xs) ++ drop (suc i) xs
  changed [] i d low = absurd (omega (arith, low))
  changed (x ∷ xs) zero d low = refl
  changed (x ∷ xs) (suc i) d low = ap (λ l. f x ∷ l) (changed xs i d (omega (arith, low)))

  pub changed-more : (xs zs : List X) (i : ℕ) (d : X) → i < length xs → zs ≡ map f (take i xs) ++ drop i xs → set zs i (f (get_or zs i d)) ≡ map f (take (i + 1) xs) ++ drop (i + 1) xs
  changed-more xs zs i d low h = ap (λ l. set l i (f (get_or l i d))) h ∙ changed xs i d low ∙ ap (λ j. map f (take j xs) ++ drop j xs) (let e : suc i ≡ i + 1 = omega arith in e)

  unchanged : (xs : List X) (i : ℕ) (d : X) → i < length xs → get_or (map f (take i xs) ++ drop i xs) i d ≡ get_or xs i d
  unchanged [] i d low = absurd (omega (arith, low))
  unchanged (x ∷ xs) zero d low = refl
  unchanged (x ∷ xs) (suc i) d low = unchanged xs i d (omega (arith, low))

  pub unchanged-at : (xs zs : List X) (i : ℕ) (d : X) → i < length xs → zs ≡ map f (take i xs) ++ drop i xs → get_or zs i d ≡ get_or xs i d
  unchanged-at xs zs i d low h = ap (λ l. get_or l i d) h ∙ unchanged xs i d low
