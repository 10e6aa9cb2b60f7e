use Rattle.std.proofs.Common.{◌≡◌, ◌∙◌, ap, arith, pos, neg_ℤ, ◌-ℤ◌, ◌≤ℤ◌, to_z, of_z, w64}
use Rattle.std.specs.Int.{w128, int_rem_euclid}
use Rattle.std.proofs.lemmas.Int.{ints}
use Rattle.fq_expr.specs.Division.{floor_remainder}
use Rattle.fq_expr.proofs.DivisionLemmas.{floor_remainder-below}
use Rattle.fq_expr.proofs.arithmetic.remainder.Goals as goal

pub returns : goal.returns
returns c =
    let below : c.args.b ≤ℤ pos 0 = grind (arith, ints) in
    let na : to_z w128 (of_z w128 (pos 0 -ℤ to_z w128 (of_z w128 c.from.result))) ≡ neg_ℤ c.args.a = omega (arith, ints) in
    let nb : to_z w128 (of_z w128 (pos 0 -ℤ to_z w128 (of_z w128 c.from-2.result))) ≡ neg_ℤ c.args.b = omega (arith, ints) in
    let r : neg_ℤ c.rem_euclid-2.result ≡ floor_remainder c.args.a c.args.b =
    ap neg_ℤ (c.rem_euclid-2.ensures.value ∙ (λ i. int_rem_euclid (na i) (nb i))) ∙ floor_remainder-below c.args.a c.args.b c.requires below in
    let z : to_z w64 (of_z w64 (to_z w128 (of_z w128 (pos 0 -ℤ to_z w128 (of_z w128 c.rem_euclid-2.result))))) ≡ neg_ℤ c.rem_euclid-2.result = omega (arith, ints) in
    z ∙ r
