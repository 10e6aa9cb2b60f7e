use Rattle.std.proofs.Common.{◌∙◌, arith, refl, sym}
use Rattle.fq_notation.proofs.DecimalLemmas.{digit-fits, read-digit, read-first, read-point}
use Rattle.fq_notation.proofs.decimals.digits_and_places.Goals as goal

pub loop-rest-init : goal.loop-rest-init
loop-rest-init c = read-first c.args.number.now c.requires

pub overflow_mul-digits : goal.overflow_mul-digits
overflow_mul-digits c = record {
  fits = omega (arith, digit-fits c.args.number.now c.loop-rest.digits c.loop-rest.places c.loop-rest.rest.now c.in-len1-up.len_at_least (sym c.is_ascii_digit.ensures.value ∙ c.if-is_ascii_digit.true) c.loop-rest.invariant);
}

pub overflow_add-digits : goal.overflow_add-digits
overflow_add-digits c = record {
  fits = omega (arith, digit-fits c.args.number.now c.loop-rest.digits c.loop-rest.places c.loop-rest.rest.now c.in-len1-up.len_at_least (sym c.is_ascii_digit.ensures.value ∙ c.if-is_ascii_digit.true) c.loop-rest.invariant, c.from.ensures);
}

pub loop-rest-preserved-then-is_ascii_digit : goal.loop-rest-preserved-then-is_ascii_digit
loop-rest-preserved-then-is_ascii_digit c =
    read-digit c.args.number.now c.loop-rest.digits c.from.result c.loop-rest.places c.loop-rest.rest.now c.in-len1-up.len_at_least (sym c.is_ascii_digit.ensures.value ∙ c.if-is_ascii_digit.true) c.from.ensures c.loop-rest.invariant

pub loop-rest-preserved : goal.loop-rest-preserved
loop-rest-preserved c =
    read-point c.args.number.now c.loop-rest.digits _ c.loop-rest.places c.loop-rest.rest.now c.in-len1-up.len_at_least c.if-byte-eq46.true c.if-is_none.ensures refl c.loop-rest.invariant
