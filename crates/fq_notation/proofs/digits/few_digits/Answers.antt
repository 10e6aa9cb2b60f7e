use Rattle.std.proofs.Common.{◌∙◌, arith, sym}
use Rattle.fq_notation.proofs.DigitLemmas.{within}
use Rattle.fq_notation.proofs.digits.few_digits.Goals as goal

pub overflow_mul-number : goal.overflow_mul-number
overflow_mul-number c = record {
  fits = omega (arith, within c.loop-rest.number c.loop-rest.rest.now c.in-len1-up.len_at_least (sym c.is_ascii_digit.ensures.value ∙ c.if-not-is_ascii_digit.false), c.loop-rest.invariant.value, c.requires);
}

pub overflow_add-number : goal.overflow_add-number
overflow_add-number c = record {
  fits = omega (arith, within c.loop-rest.number c.loop-rest.rest.now c.in-len1-up.len_at_least (sym c.is_ascii_digit.ensures.value ∙ c.if-not-is_ascii_digit.false), c.loop-rest.invariant.value, c.requires, c.from.ensures);
}
