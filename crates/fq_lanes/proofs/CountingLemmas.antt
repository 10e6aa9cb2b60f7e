-- As many distinct serials as were offered are found, so a file with all its serials is complete.
use Rattle.std.proofs.Common.{◌≡◌, ◌==◌, ◌&&◌, ◌≤◌, ◌<◌, ℕ, zero, suc, ◌+◌, List, [], ◌∷◌, length, refl, subst, arith, Option, Some, None, Bool, true, false, cond}
use Rattle.std.proofs.lemmas.Bool.{eqb-true}
use Rattle.fq_lanes.specs.Due.{offer_at, ready_step, ready_from}
use Rattle.fq_lanes.specs.Ledger.{one_if, offered}
use Rattle.fq_lanes.specs.declared.events.Event.{Event}
use Rattle.fq_lanes.specs.declared.events.Event.TheVariants.{Offer, Close}

abbrev pub sum_to : ℕ → (ℕ → ℕ) → ℕ
sum_to zero g = 0
sum_to (suc n) g = sum_to n g + g n

pub sum_to_add : (n : ℕ) (g h : ℕ → ℕ) → sum_to n (λ s. g s + h s) ≡ sum_to n g + sum_to n h
sum_to_add zero g h = refl
sum_to_add (suc n) g h = omega (arith, sum_to_add n g h)

sum_zero : (n : ℕ) → sum_to n (λ s. 0) ≤ 0
sum_zero zero = omega arith
sum_zero (suc n) = let r = sum_zero n in omega (arith, r)

abbrev one_of : Bool → ℕ
one_of b = cond b 1 0

one_cases : (c d : Bool) → (one_of (c && d) ≤ 1) × (d ≡ false → one_of (c && d) ≡ 0)
one_cases true true = (omega arith, λ e. let bad : ⊥ = cc in absurd bad)
one_cases true false = (omega arith, λ e. refl)
one_cases false true = (omega arith, λ e. refl)
one_cases false false = (omega arith, λ e. refl)

differ_go : (b s : ℕ) (t : Bool) → (t ≡ true → b ≡ s) → (b ≡ s → ⊥) → t ≡ false
differ_go b s true k n = absurd (n (k refl))
differ_go b s false k n = refl

differ : (b s : ℕ) → (b ≡ s → ⊥) → (b == s) ≡ false
differ b s h = differ_go b s (b == s) (eqb-true b s) h

step_at : (t : Bool) (b n x y : ℕ) → (t ≡ true → b ≡ n) → (t ≡ false → y ≡ 0) → x ≤ 1 → (n ≤ b → x ≡ 0) → y ≤ 1 → x + y ≤ 1
step_at true b n x y k z lo h hi = let e = k refl in let low = h (omega (arith, e)) in omega (arith, low, hi)
step_at false b n x y k z lo h hi = let e = z refl in omega (arith, e, lo)

-- one pair is counted at one serial at most
pub sum_one : (n f a b : ℕ) → (sum_to n (λ s. one_if f s a b) ≤ 1) × (n ≤ b → sum_to n (λ s. one_if f s a b) ≡ 0)
sum_one zero f a b = (omega arith, λ h. refl)
sum_one (suc n) f a b =
    let rest = sum_one n f a b in
    let here = one_cases (a == f) (b == n) in
    let zero_here : (b ≡ n → ⊥) → one_if f n a b ≡ 0 = λ ne. here.1 (differ b n ne) in (
      step_at (b == n) b n (sum_to n (λ s. one_if f s a b)) (one_if f n a b) (eqb-true b n) here.1 rest.0 rest.1 here.0,
      λ h. let lo = rest.1 (omega arith) in let at = zero_here (λ e. omega (arith, e, h)) in omega (arith, lo, at),
    )

pub sum_at_least : (n : ℕ) (g : ℕ → ℕ) → ((s : ℕ) → s < n → 1 ≤ g s) → n ≤ sum_to n g
sum_at_least zero g h = omega arith
sum_at_least (suc n) g h = let rest = sum_at_least n g (λ s below. h s (omega arith)) in let here = h n (omega arith) in omega (arith, rest, here)

module _ {O : Type 0} where
  -- all the serials below n together are offered at most as often as there are events
  pub sum_offered : (n f : ℕ) (es : List (Event O)) → sum_to n (λ s. offered f s es) ≤ length es
  sum_offered n f [] = sum_zero n
  sum_offered n f (Offer a b x ∷ es) =
      let both = sum_to_add n (λ s. one_if f s a b) (λ s. offered f s es) in
      let one = (sum_one n f a b).0 in
      let rest = sum_offered n f es in
      omega (arith, both, one, rest)
  sum_offered n f (Close a m ∷ es) = let rest = sum_offered n f es in omega (arith, rest)

  -- so there are as many events as serials
  pub enough : (n f : ℕ) (es : List (Event O)) → ((s : ℕ) → s < n → 1 ≤ offered f s es) → n ≤ length es
  enough n f es h = let a = sum_at_least n (λ s. offered f s es) h in let b = sum_offered n f es in omega (arith, a, b)

  pub full_step : (f s n : ℕ) (found : Option O) (rest : List (ℕ × ℕ × O)) → (y : O) × (found ≡ Some y) → length rest ≡ n → length (ready_step found f s rest) ≡ suc n
  full_step f s n None rest (y, e) l = let bad : ⊥ = cc in absurd bad
  full_step f s n (Some x) rest e l = omega (arith, l)

  pub end_step : (f s : ℕ) (found : Option O) (rest : List (ℕ × ℕ × O)) → found ≡ None → length (ready_step found f s rest) ≡ zero
  end_step f s None rest e = refl
  end_step f s (Some x) rest e = let bad : ⊥ = cc in absurd bad

  -- if the n serials from s on are offered, and the next is not, n items are ready from s on
  pub full_ready : (es : List (Event O)) (f s n most : ℕ) → n ≤ most → ((r : ℕ) → s ≤ r → r < s + n → (y : O) × (offer_at es f r ≡ Some y)) → offer_at es f (s + n) ≡ None → length (ready_from es f s most) ≡ n
  full_ready es f s zero zero le h e = refl
  full_ready es f s zero (suc most) le h e =
      let at : s + zero ≡ s = omega arith in end_step f s (offer_at es f s) (ready_from es f (suc s) most) (subst (λ k. offer_at es f k ≡ None) at e)
  full_ready es f s (suc n) zero le h e = absurd (omega arith)
  full_ready es f s (suc n) (suc most) le h e =
      let at : s + suc n ≡ suc s + n = omega arith in
      full_step f s n (offer_at es f s) (ready_from es f (suc s) most) (h s (omega arith) (omega arith))
      (full_ready es f (suc s) n most (omega arith) (λ r a b. h r (omega arith) (omega arith)) (subst (λ k. offer_at es f k ≡ None) at e))
