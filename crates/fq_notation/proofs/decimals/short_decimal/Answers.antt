use Rattle.std.proofs.Common.{◌≡◌, ◌∙◌, ◌-◌, ◌*◌, ◌^◌, ap, arith, length, sym, w64}
use Rattle.std.proofs.lemmas.Bool.{eqb-false}
use Rattle.std.proofs.lemmas.Int.{to_z-of_z}
use Rattle.fq_notation.specs.Digits.{signed}
use Rattle.fq_notation.proofs.DecimalLemmas.{any-alone, any-of-two, exact-found, no-point-in, none-behind, short-found, some-places, with-sign}
use Rattle.fq_notation.proofs.DigitLemmas.{fits-few}
use Rattle.fq_notation.proofs.decimals.short_decimal.Goals as goal

pub returns-in-Some : goal.returns-in-Some
returns-in-Some c =
    let number = c.args.number.now in
    let counted = some-places number c.in-Some.places (sym c.in-Some.is ∙ c.in_ok-digits.ensures.places) in
    let found = exact-found c.args.scale number c.in_ok-digits.digits c.in_ok-digits.ensures.form c.in_ok-digits.ensures.digits
    (sym counted ∙ c.if-places-most.true ∙ c.places-most.ensures.value) (omega (arith, c.places-most.ensures.value, c.places-most.ensures.range.0)) in (
      found.0,
      rw (sym found.1) (fits-few c.args.is_negative c.in_ok-digits.digits c.in_ok-digits.ensures.few),
      to_z-of_z w64 c.few_with_sign.result (record { sfits = c.few_with_sign.type_inv }) ∙ c.few_with_sign.ensures ∙ ap (signed c.args.is_negative) found.1,
    )

pub returns-in_ok-times_power-in-Some-2 : goal.returns-in_ok-times_power-in-Some-2
returns-in_ok-times_power-in-Some-2 c =
    let number = c.args.number.now in
    let times = c.in_ok-times_power-in-Some-2 in
    let found = short-found c.args.scale number c.in_ok-digits.digits c.in_ok-digits.ensures.form c.in_ok-digits.ensures.digits c.in-Some-2.places times.field-0
    (some-places number c.in-Some-2.places (sym c.in-Some-2.is ∙ c.in_ok-digits.ensures.places)) (any-of-two number c.in_ok-digits.ensures.form c.if-number-gt1.true)
    (omega (arith, c.places-most.ensures.value, c.if-places-most-2.true)) (rw c.places-most.ensures.value at times.ensures.1) in
    with-sign c.args.is_negative times.field-0 _ c.with_sign.result found.1 c.with_sign.ensures _ found.0

pub returns-in_ok-times_power-in-None : goal.returns-in_ok-times_power-in-None
returns-in_ok-times_power-in-None c =
    let number = c.args.number.now in
    let times = c.in_ok-times_power-in-None in
    let all : c.args.scale ≡ c.args.scale - 0 = omega arith in
    let no-point = no-point-in number (sym c.in-None.is ∙ c.in_ok-digits.ensures.places) in
    let some = eqb-false (length number) 0 (sym c.is_empty.ensures ∙ c.if-not-is_empty.true) in
    let found = short-found c.args.scale number c.in_ok-digits.digits c.in_ok-digits.ensures.form c.in_ok-digits.ensures.digits 0 times.field-0
    (sym (none-behind number no-point)) (any-alone number c.in_ok-digits.ensures.form no-point (omega (arith, some))) (omega arith)
    (rw c.places-most.ensures.value at times.ensures.1 ∙ ap (λ k. c.in_ok-digits.digits * 10 ^ k) all) in
    with-sign c.args.is_negative times.field-0 _ c.with_sign-in-None.result found.1 c.with_sign-in-None.ensures _ found.0
