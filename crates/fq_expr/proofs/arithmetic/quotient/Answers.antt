use Rattle.std.proofs.Common.{◌≡◌, ◌∙◌, sym, arith, pos, neg_ℤ, ◌-ℤ◌, ◌≤ℤ◌, to_z, of_z, w64, SFits}
use Rattle.std.specs.Int.{w128}
use Rattle.std.proofs.lemmas.Int.{ints}
use Rattle.std.specs.Int.{int_div_euclid}
use Rattle.fq_expr.specs.Division.{floor_quotient}
use Rattle.fq_expr.proofs.DivisionLemmas.{SomeIff-from_ok, floor_quotient-below}
use Rattle.fq_expr.proofs.arithmetic.quotient.Goals as goal

pub returns : goal.returns
returns c =
    let below : c.args.b ≤ℤ pos 0 = grind (arith, ints) in
    let na : to_z w128 (of_z w128 (pos 0 -ℤ to_z w128 (of_z w128 c.from.result))) ≡ neg_ℤ c.args.a = omega (arith, ints) in
    let nb : to_z w128 (of_z w128 (pos 0 -ℤ to_z w128 (of_z w128 c.from-2.result))) ≡ neg_ℤ c.args.b = omega (arith, ints) in
    let q : c.div_euclid-2.result ≡ floor_quotient c.args.a c.args.b = c.div_euclid-2.ensures ∙ (λ i. int_div_euclid (na i) (nb i)) ∙ sym (floor_quotient-below c.args.a c.args.b c.requires below) in
    let r : to_z w128 (of_z w128 c.div_euclid-2.result) ≡ floor_quotient c.args.a c.args.b = omega (arith, ints) in
    rw (c.ok.ensures.value, ← r) (SomeIff-from_ok c.try_from.result (SFits w64 (to_z w128 (of_z w128 c.div_euclid-2.result))) (to_z w128 (of_z w128 c.div_euclid-2.result)) c.try_from.ensures)
