-- The window of a rolling sum as it moves on.
use Rattle.std.proofs.Common.{◌≡◌, ℕ, zero, suc, ◌+◌, ◌-◌, ◌*◌, ◌^◌, ◌<◌, ◌≤◌, nat_lt, nat_le, Bool, true, false, List, [], ◌∷◌, ◌++◌, map, drop, length, fold, Option, Some, None, ℤ, pos, negsuc, ◌+ℤ◌, ◌-ℤ◌, ◌≤ℤ◌, refl, sym, ap, subst, ◌∙◌, arith, length-append, length-drop, unwrap_or, if◌then◌else◌}
use Rattle.std.specs.Prelude.{slice_get, option_to_list}
use Rattle.std.proofs.lemmas.Bool.Decides.{nat_tests}
use Rattle.std.proofs.lemmas.Int.{ints}
use Rattle.std.proofs.lemmas.List.Sums.{fold-append}
use Rattle.circular_buffer.specs.Buffer.{keep_last}
use Rattle.fq_column.specs.declared.cells.Cell.TheVariants.{Null, Whole}
use Rattle.fq_column.specs.Cell.{fits, fitted}
use mir.Syntax.{w64}
use mir.Val.{SFits}
use Rattle.std.proofs.lemmas.Bool.{le-leb, lt-leb}
use Rattle.std.proofs.lemmas.List.{drop-drop}
use Rattle.fq_column.specs.Column.{nullable}
use Rattle.fq_ops.specs.declared.rolls.TheConstants.{MAX_WINDOW}
use Rattle.fq_ops.specs.Aggregate.{wholes, int_sum}
use Rattle.fq_ops.specs.Sums.{AllFit, IsWithin}
use Rattle.fq_ops.specs.Window.{present, IsRunning, sum_of_window}

-- ---- sums

fold-plus : (a : ℤ) (ns : List ℤ) → fold (λ s n. s +ℤ n) a ns ≡ a +ℤ int_sum ns
fold-plus a [] = omega (arith, ints)
fold-plus a (n ∷ ns) =
    fold-plus (a +ℤ n) ns ∙ (let e : (a +ℤ n) +ℤ int_sum ns ≡ a +ℤ ((pos 0 +ℤ n) +ℤ int_sum ns) = omega (arith, ints) in e) ∙ ap (λ s. a +ℤ s) (sym (fold-plus (pos 0 +ℤ n) ns))

pub int_sum-cons : (n : ℤ) (ns : List ℤ) → int_sum (n ∷ ns) ≡ n +ℤ int_sum ns
int_sum-cons n ns = fold-plus (pos 0 +ℤ n) ns ∙ (let e : (pos 0 +ℤ n) +ℤ int_sum ns ≡ n +ℤ int_sum ns = omega (arith, ints) in e)

-- a number that fits lies within one
pub fits-low : (n : ℤ) → fits n ≡ true → pos 0 ≤ℤ (n +ℤ pos (2 ^ 63))
fits-low (pos n) e = omega (arith, ints)
fits-low (negsuc n) e = let h : n < 2 ^ 63 = grind (arith, nat_tests) in omega (arith, ints, h)

pub fits-high : (n : ℤ) → fits n ≡ true → n ≤ℤ pos (2 ^ 63)
fits-high (pos n) e = let h : n < 2 ^ 63 = grind (arith, nat_tests) in omega (arith, ints, h)
fits-high (negsuc n) e = omega (arith, ints)

more : (n : ℕ) → (suc n) * 2 ^ 63 ≡ n * 2 ^ 63 + 2 ^ 63
more n = omega arith

pub within-more : (n : ℕ) (total value : ℤ) → fits value ≡ true → IsWithin n total → IsWithin (suc n) (total +ℤ value)
within-more n total value f w = record {
  low = omega (arith, ints, w.low, fits-low value f, more n);
  high = omega (arith, ints, w.high, fits-high value f, more n);
}

pub within-le : (m n : ℕ) (total : ℤ) → m ≤ n → IsWithin m total → IsWithin n total
within-le m n total h w = record { low = omega (arith, ints, w.low); high = omega (arith, ints, w.high) }

within-sum : (ns : List ℤ) → AllFit ns → IsWithin (length ns) (int_sum ns)
within-sum [] f = record { low = omega (arith, ints); high = omega (arith, ints) }
within-sum (n ∷ ns) f =
    subst (IsWithin (suc (length ns))) ((let e : int_sum ns +ℤ n ≡ n +ℤ int_sum ns = omega (arith, ints) in e) ∙ sym (int_sum-cons n ns)) (within-more (length ns) (int_sum ns) n f.0 (within-sum ns f.1))

length-present : {X : Type 0} (places : List (Option X)) → length (present places) ≤ length places
length-present [] = omega arith
length-present (None ∷ places) = omega (arith, length-present places)
length-present (Some x ∷ places) = omega (arith, length-present places)

-- the sum of a window is far from the ends of 128 bits
pub window-within : (places : List (Option ℤ)) → AllFit (present places) → length places ≤ MAX_WINDOW → IsWithin (2 ^ 40) (int_sum (present places))
window-within places f few = within-le (length (present places)) (2 ^ 40) (int_sum (present places)) (omega (arith, length-present places)) (within-sum (present places) f)

-- ---- one place more

-- what stays of a window's places when one more comes
abbrev pub kept : ℕ → List (Option ℤ) → List (Option ℤ)
kept window places = drop (suc (length places) - window) places

drop-push : {X : Type 0} (n : ℕ) (xs : List X) (x : X) → n ≤ length xs → drop n (xs ++ x ∷ []) ≡ drop n xs ++ x ∷ []
drop-push zero xs x h = refl
drop-push (suc n) [] x h = absurd (omega (arith, h))
drop-push (suc n) (y ∷ xs) x h = drop-push n xs x (omega (arith, h))

pub keep_last-push : {X : Type 0} (n : ℕ) (xs : List X) (x : X) → 1 ≤ n → keep_last n (xs ++ x ∷ []) ≡ drop (suc (length xs) - n) xs ++ x ∷ []
keep_last-push n xs x h =
    ap (λ k. drop (k - n) (xs ++ x ∷ [])) (length-append xs (x ∷ []) ∙ (let e : length xs + 1 ≡ suc (length xs) = omega arith in e))
    ∙ drop-push (suc (length xs) - n) xs x (omega (arith, h))

-- the place that a full window gives up
abbrev pub given_up : ℕ → List (Option ℤ) → Option ℤ → Option ℤ
given_up window places place = unwrap_or (if nat_lt (length places) window then None else slice_get (places ++ place ∷ []) 0) None

present-cons : (p : Option ℤ) (places : List (Option ℤ)) → present (p ∷ places) ≡ option_to_list p ++ present places
present-cons None places = refl
present-cons (Some n) places = refl

nat_lt-so : (m n : ℕ) → nat_lt m n ≡ true → m < n
nat_lt-so m n e = grind (arith, nat_tests)

nat_lt-not : (m n : ℕ) → nat_lt m n ≡ false → n ≤ m
nat_lt-not m n e = grind (arith, nat_tests)

pub present-given_up : (window : ℕ) (places : List (Option ℤ)) (place : Option ℤ) → length places ≤ window → 1 ≤ window →
    present places ≡ option_to_list (given_up window places place) ++ present (kept window places)
present-given_up window places place within some = by (nat_lt (length places) window) refl
  where
    full : (ps : List (Option ℤ)) → window ≤ length ps → length ps ≤ window → present ps ≡ option_to_list (unwrap_or (slice_get (ps ++ place ∷ []) 0) None) ++ present (kept window ps)
    full [] h w = absurd (omega (arith, h, some))
    full (p ∷ ps) h w =
        present-cons p ps ∙ ap (λ k. option_to_list p ++ present (drop k (p ∷ ps))) (let e : 1 ≡ suc (suc (length ps)) - window = omega (arith, h, w) in e)

    by : (b : Bool) → nat_lt (length places) window ≡ b → present places ≡ option_to_list (given_up window places place) ++ present (kept window places)
    by true e =
        ap (λ k. present (drop k places)) (let f : 0 ≡ suc (length places) - window = omega (arith, nat_lt-so (length places) window e) in f)
        ∙ ap (λ b. option_to_list (unwrap_or (if b then None else slice_get (places ++ place ∷ []) 0) None) ++ present (kept window places)) (sym e)
    by false e =
        full places (nat_lt-not (length places) window e) within
        ∙ ap (λ b. option_to_list (unwrap_or (if b then None else slice_get (places ++ place ∷ []) 0) None) ++ present (kept window places)) (sym e)

pub length-kept : (window : ℕ) (places : List (Option ℤ)) → 1 ≤ window → suc (length (kept window places)) ≤ window
length-kept window places some = omega (arith, length-drop (suc (length places) - window) places)

present-push : (places : List (Option ℤ)) (p : Option ℤ) → present (places ++ p ∷ []) ≡ present places ++ option_to_list p
present-push [] None = refl
present-push [] (Some n) = refl
present-push (None ∷ places) p = present-push places p
present-push (Some m ∷ places) p = ap (λ ns. m ∷ ns) (present-push places p)

int_sum-append : (ns ms : List ℤ) → int_sum (ns ++ ms) ≡ int_sum ns +ℤ int_sum ms
int_sum-append ns ms = fold-append (λ s n. s +ℤ n) (pos 0) ns ms ∙ fold-plus (int_sum ns) ms

AllFit-append : (ns ms : List ℤ) → AllFit ns → AllFit ms → AllFit (ns ++ ms)
AllFit-append [] ms f g = g
AllFit-append (n ∷ ns) ms f g = (f.0, AllFit-append ns ms f.1 g)

AllFit-rest : (ns ms : List ℤ) → AllFit (ns ++ ms) → AllFit ms
AllFit-rest [] ms f = f
AllFit-rest (n ∷ ns) ms f = AllFit-rest ns ms f.1

module _ (places : List (Option ℤ)) (window : ℕ) (sum : ℤ) (count : ℕ) (r : IsRunning places window sum count) (place left : Option ℤ) (g : left ≡ given_up window places place) where
  split : present places ≡ option_to_list left ++ present (kept window places)
  split = present-given_up window places place r.within r.some ∙ ap (λ l. option_to_list l ++ present (kept window places)) (sym g)

  pub sum-left : sum -ℤ int_sum (option_to_list left) ≡ int_sum (present (kept window places))
  sum-left =
      let whole : sum ≡ int_sum (option_to_list left) +ℤ int_sum (present (kept window places)) = r.sum_is ∙ ap int_sum split ∙ int_sum-append (option_to_list left) (present (kept window places)) in
      omega (arith, ints, whole)

  pub count-left : count ≡ length (option_to_list left) + length (present (kept window places))
  count-left = r.count_is ∙ ap length split ∙ length-append (option_to_list left) (present (kept window places))

  fit-left : AllFit (present (kept window places))
  fit-left = AllFit-rest (option_to_list left) (present (kept window places)) (subst AllFit split r.all_fit)

  pub window-left : IsWithin (2 ^ 40) (int_sum (present (kept window places)))
  window-left = window-within (kept window places) fit-left (omega (arith, length-kept window places r.some, r.few))

  pub count-few : length (present (kept window places)) < 2 ^ 40
  count-few = omega (arith, length-present (kept window places), length-kept window places r.some, r.few)

  pub slid : (sum' : ℤ) (count' : ℕ) → sum' ≡ int_sum (present (kept window places)) +ℤ int_sum (option_to_list place) → count' ≡ length (present (kept window places)) + length (option_to_list place) → AllFit (option_to_list place) →
      IsRunning (keep_last window (places ++ place ∷ [])) window sum' count'
  slid sum' count' s k f = subst (λ ps. IsRunning ps window sum' count') (sym (keep_last-push window places place r.some)) record {
    sum_is = s ∙ sym (ap int_sum (present-push (kept window places) place) ∙ int_sum-append (present (kept window places)) (option_to_list place));
    count_is = k ∙ sym (ap length (present-push (kept window places) place) ∙ length-append (present (kept window places)) (option_to_list place));
    all_fit = subst AllFit (sym (present-push (kept window places) place)) (AllFit-append (present (kept window places)) (option_to_list place) fit-left f);
    within = omega (arith, length-append (kept window places) (place ∷ []), length-kept window places r.some);
    some = r.some;
    few = r.few;
  }

-- ---- the sum of a window

pub wholes-nullable : (places : List (Option ℤ)) → wholes (map (nullable Whole) places) ≡ present places
wholes-nullable [] = refl
wholes-nullable (None ∷ places) = wholes-nullable places
wholes-nullable (Some n ∷ places) = ap (λ ns. n ∷ ns) (wholes-nullable places)

pub fits-so : (z : ℤ) → SFits w64 z → fits z ≡ true
fits-so (pos n) f = let h : n < 2 ^ 63 = f.sfits in grind (arith, nat_tests)
fits-so (negsuc n) f = let h : n < 2 ^ 63 = f.sfits in grind (arith, nat_tests)

pub fits-not : (z : ℤ) → (SFits w64 z → ⊥) → fits z ≡ false
fits-not (pos n) f = by (nat_lt n (2 ^ 63)) refl
  where
    by : (b : Bool) → nat_lt n (2 ^ 63) ≡ b → b ≡ false
    by true e = let h : n < 2 ^ 63 = nat_lt-so n (2 ^ 63) e in absurd (f record { sfits = h })
    by false e = refl
fits-not (negsuc n) f = by (nat_lt n (2 ^ 63)) refl
  where
    by : (b : Bool) → nat_lt n (2 ^ 63) ≡ b → b ≡ false
    by true e = let h : n < 2 ^ 63 = nat_lt-so n (2 ^ 63) e in absurd (f record { sfits = h })
    by false e = refl

module _ (m : ℕ) (places : List (Option ℤ)) (sum : ℤ) (count : ℕ) (s : sum ≡ int_sum (present places)) (k : count ≡ length (present places)) where
  judged : sum_of_window m (map (nullable Whole) places) ≡ (if nat_le m count then fitted sum else Some Null)
  judged = ap (λ ns. if nat_le m (length ns) then fitted (int_sum ns) else Some Null) (wholes-nullable places) ∙ sym (λ i. if nat_le m (k i) then fitted (s i) else Some Null)

  pub sum-too_few : count < m → sum_of_window m (map (nullable Whole) places) ≡ Some Null
  sum-too_few h = judged ∙ ap (λ b. if b then fitted sum else Some Null) (lt-leb m count h)

  pub sum-given : m ≤ count → fits sum ≡ true → sum_of_window m (map (nullable Whole) places) ≡ Some (Whole sum)
  sum-given h f = judged ∙ ap (λ b. if b then fitted sum else Some Null) (le-leb m count h) ∙ ap (λ b. if b then Some (Whole sum) else None) f

  pub sum-out_of_range : m ≤ count → fits sum ≡ false → sum_of_window m (map (nullable Whole) places) ≡ None
  sum-out_of_range h f = judged ∙ ap (λ b. if b then fitted sum else Some Null) (le-leb m count h) ∙ ap (λ b. if b then Some (Whole sum) else None) f

-- ---- the sums along cells

drop-append-le : {X : Type 0} (n : ℕ) (xs ys : List X) → n ≤ length xs → drop n (xs ++ ys) ≡ drop n xs ++ ys
drop-append-le zero xs ys h = refl
drop-append-le (suc n) [] ys h = absurd (omega (arith, h))
drop-append-le (suc n) (x ∷ xs) ys h = drop-append-le n xs ys (omega (arith, h))

-- the last of what was kept and more
pub keep_last-append : {X : Type 0} (n : ℕ) (xs ys : List X) → keep_last n (keep_last n xs ++ ys) ≡ keep_last n (xs ++ ys)
keep_last-append n xs ys =
    let k = length xs - n in
    ap (λ zs. keep_last n zs) (sym (drop-append-le k xs ys (omega arith)))
    ∙ drop-drop (length (drop k (xs ++ ys)) - n) k (xs ++ ys)
    ∙ ap (λ j. drop j (xs ++ ys)) (let e : k + (length (drop k (xs ++ ys)) - n) ≡ length (xs ++ ys) - n = omega (arith, length-drop k (xs ++ ys), length-append xs ys) in e)
