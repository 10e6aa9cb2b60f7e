use Rattle.std.proofs.Common.{◌≡◌, ◌<◌, ◌^◌, ◌∙◌, ◌-ℤ◌, arith, refl, ℕ, ℤ, pos, neg_ℤ, suc, zero, to_z, of_z, w64}
use Rattle.std.proofs.Math.IntN.{+ℤ_idl}
use Rattle.std.proofs.lemmas.Int.{to_z-of_z, to_z_pos}
use mir.Val.{SFits}
use Rattle.fq_notation.proofs.digits.few_with_sign.Goals as goal

-- as it comes back from a cast and an operation
kept : (z : ℤ) (n : ℕ) → z ≡ to_z w64 n → n < 10 ^ 18 → to_z w64 (of_z w64 z) ≡ pos n
kept z n e l =
    let is : z ≡ pos n = e ∙ to_z_pos w64 n (omega (arith, l)) in
    rw is (to_z-of_z w64 (pos n) (record { sfits = omega (arith, l) }))

negated : (n : ℕ) → n < 10 ^ 18 → SFits w64 (pos 0 -ℤ pos n) × (pos 0 -ℤ pos n ≡ neg_ℤ (pos n))
negated n l = let is : pos 0 -ℤ pos n ≡ neg_ℤ (pos n) = +ℤ_idl (neg_ℤ (pos n)) in (rw is (fits n l), is)
  where
    fits : (n : ℕ) → n < 10 ^ 18 → SFits w64 (neg_ℤ (pos n))
    fits zero l = record { sfits = omega (arith, l) }
    fits (suc k) l = record { sfits = omega (arith, l) }

pub overflow_sub-result : goal.overflow_sub-result
overflow_sub-result c = rw (kept c.cast_signed-number.result c.args.number c.cast_signed-number.ensures c.requires) (negated c.args.number c.requires).0

pub returns-then-is_negative : goal.returns-then-is_negative
returns-then-is_negative c =
    let n = c.args.number in
    rw (kept c.cast_signed-number.result n c.cast_signed-number.ensures c.requires, to_z-of_z w64 (pos 0 -ℤ pos n) (negated n c.requires).0, c.if-is_negative.true) (negated n c.requires).1

pub returns-else-is_negative : goal.returns-else-is_negative
returns-else-is_negative c = rw (kept c.cast_signed-number.result c.args.number c.cast_signed-number.ensures c.requires, c.if-is_negative.false) refl
