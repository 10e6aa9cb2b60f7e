-- Division rounded towards minus infinity, by the division whose remainder is not negative.
use Rattle.std.proofs.Common.{◌≡◌, ℕ, zero, suc, ◌<◌, true, refl, ap, arith, ℤ, pos, negsuc, neg_ℤ, ◌-ℤ◌, ◌*ℤ◌, ◌≤ℤ◌, Result, Ok, Err, cond}
use Rattle.std.specs.Prelude.{int_lt, ◌≢◌}
use Rattle.std.specs.Int.{int_div_euclid, int_rem_euclid}
use Rattle.std.specs.Option.{SomeIff}
use Rattle.std.specs.Result.{OkIff, result_ok}
use Rattle.std.proofs.lemmas.Int.{ints}
use Rattle.std.proofs.Math.Nat.{div-add-mod, mod-lt}
use Rattle.fq_expr.specs.Division.{floor_quotient, floor_remainder}

-- a value of a result, if it is one
pub SomeIff-from_ok : {T E : Type 0} (r : Result T E) (P : Type 0) (v : T) → OkIff r P v → SomeIff (result_ok r) P v
SomeIff-from_ok (Ok x) P v h = h
SomeIff-from_ok (Err e) P v h = h

is_below : (b : ℤ) → b ≢ pos 0 → b ≤ℤ pos 0 → int_lt b (pos 0) ≡ true
is_below (pos zero) n h = absurd (n refl)
is_below (pos (suc b)) n h = absurd (omega (arith, ints, h))
is_below (negsuc b) n h = refl

-- with a divisor below 0, the quotient of the negatives
pub floor_quotient-below : (a b : ℤ) → b ≢ pos 0 → b ≤ℤ pos 0 → floor_quotient a b ≡ int_div_euclid (neg_ℤ a) (neg_ℤ b)
floor_quotient-below a b n h = ap (λ t. cond t (int_div_euclid (neg_ℤ a) (neg_ℤ b)) (int_div_euclid a b)) (is_below b n h)

-- the remainder that is not negative, by its quotient
pub int_rem_euclid-is : (x : ℤ) (n : ℕ) → 0 < n → int_rem_euclid x (pos n) ≡ x -ℤ (pos n *ℤ int_div_euclid x (pos n))
int_rem_euclid-is (pos a) n h = omega (arith, ints, div-add-mod a n, mod-lt a h)
int_rem_euclid-is (negsuc a) n h = omega (arith, ints, div-add-mod a n, mod-lt a h)

pub floor_remainder-below : (a b : ℤ) → b ≢ pos 0 → b ≤ℤ pos 0 → neg_ℤ (int_rem_euclid (neg_ℤ a) (neg_ℤ b)) ≡ floor_remainder a b
floor_remainder-below a (pos zero) n h = absurd (n refl)
floor_remainder-below a (pos (suc b)) n h = absurd (omega (arith, ints, h))
floor_remainder-below a (negsuc b) n h = let e = int_rem_euclid-is (neg_ℤ a) (suc b) (omega arith) in omega (arith, ints, e)
