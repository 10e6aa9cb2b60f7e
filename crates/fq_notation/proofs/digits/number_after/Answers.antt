use Rattle.std.proofs.Common.{◌∙◌, arith, length, sym}
use Rattle.std.proofs.lemmas.Bool.{eqb-false, eqb-true}
use Rattle.fq_notation.proofs.DigitLemmas.{alone, leading-le, not-alone}
use Rattle.fq_notation.proofs.digits.number_after.Goals as goal

pub returns-in_err-number-clause-other : goal.returns-in_err-number-clause-other
returns-in_err-number-clause-other c = rw c.from_residual.ensures (λ a. omega (arith, c.in_err-number.ensures.too_large, leading-le c.args.number c.args.digits.now))

pub returns-then-is_empty-clause-digits : goal.returns-then-is_empty-clause-digits
returns-then-is_empty-clause-digits c =
    let rest = c.in_ok-number.rest.now in
    let told = alone c.args.number c.args.digits.now rest c.in_ok-number.ensures.rest (eqb-true (length rest) 0 (sym c.is_empty.ensures ∙ c.if-is_empty.true)) in
    (told.0, c.in_ok-number.ensures.number ∙ told.1)

pub returns-else-is_empty-clause-other : goal.returns-else-is_empty-clause-other
returns-else-is_empty-clause-other c =
    let rest = c.in_ok-number.rest.now in
    λ a. absurd (not-alone c.args.digits.now rest c.in_ok-number.ensures.rest (eqb-false (length rest) 0 (sym c.is_empty.ensures ∙ c.if-is_empty.false)) a)
