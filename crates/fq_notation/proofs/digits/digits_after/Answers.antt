use Rattle.std.proofs.Common.{◌∙◌, sym}
use Rattle.fq_notation.proofs.DigitLemmas.{enough}
use Rattle.fq_notation.proofs.digits.digits_after.Goals as goal

pub returns-then-number-ge-ENOUGH-clause-too_large : goal.returns-then-number-ge-ENOUGH-clause-too_large
returns-then-number-ge-ENOUGH-clause-too_large c =
    rw c.loop-rest.invariant.value at (enough c.loop-rest.number c.loop-rest.rest.now c.in-len1-up.len_at_least (sym c.is_ascii_digit.ensures.value ∙ c.if-not-is_ascii_digit.false) c.if-number-ge-ENOUGH.true)
