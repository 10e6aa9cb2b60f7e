use Rattle.std.proofs.Common.{◌<◌, ◌^◌, ◌∙◌, ap, length, sym, w64, Some}
use Rattle.std.proofs.lemmas.Int.{to_z-of_z}
use Rattle.std.proofs.lemmas.Bool.{eqb-false, eqb-true}
use Rattle.fq_notation.proofs.DigitLemmas.{alone, few, few-whole, no-whole, not-alone}
use Rattle.fq_notation.proofs.digits.whole.Goals as goal

pub few_digits-number-requires : goal.few_digits-number-requires
few_digits-number-requires c = few c.split_sign-is_negative.result.1.now c.if-digits-gt-FEW_DIGITS.false

pub few_with_sign-requires : goal.few_with_sign-requires
few_with_sign-requires c = rw (sym c.few_digits-number.ensures.number) at (few c.split_sign-is_negative.result.1.now c.if-digits-gt-FEW_DIGITS.false)

pub returns-then-not-is_empty : goal.returns-then-not-is_empty
returns-then-not-is_empty c =
    let digits = c.split_sign-is_negative.result.1.now in
    let rest = c.few_digits-number.result.1.now in
    no-whole c.args.field.now digits c.split_sign-is_negative.ensures.number
    (not-alone digits rest c.few_digits-number.ensures.rest (eqb-false (length rest) 0 (sym c.is_empty-2.ensures ∙ c.if-not-is_empty.true)))

pub returns : goal.returns
returns c =
    let digits = c.split_sign-is_negative.result.1.now in
    let n = c.few_digits-number.result.0 in
    let rest = c.few_digits-number.result.1.now in
    let l : n < 10 ^ 18 = rw (sym c.few_digits-number.ensures.number) at (few digits c.if-digits-gt-FEW_DIGITS.false) in
    let told = alone 0 digits rest c.few_digits-number.ensures.rest (eqb-true (length rest) 0 (sym c.is_empty-2.ensures ∙ c.if-not-is_empty.false)) in
    let some = eqb-false (length digits) 0 (sym c.is_empty.ensures ∙ c.if-is_empty.false) in
    ap Some (to_z-of_z w64 c.few_with_sign.result (record { sfits = c.few_with_sign.type_inv }) ∙ c.few_with_sign.ensures)
    ∙ few-whole c.args.field.now c.split_sign-is_negative.result.0 digits n c.split_sign-is_negative.ensures.minus c.split_sign-is_negative.ensures.number some told.0 (c.few_digits-number.ensures.number ∙ told.1) l
