use Rattle.std.proofs.Common.{◌∙◌, sym}
use Rattle.fq_notation.proofs.DecimalLemmas.{before-digits, decimal-found, decimal-missed, too-large}
use Rattle.fq_notation.proofs.decimals.long_scaled.Goals as goal

pub returns-in_err-whole-clause-other : goal.returns-in_err-whole-clause-other
returns-in_err-whole-clause-other c =
    rw c.from_residual.ensures (λ e. too-large c.args.scale c.args.number.now (c.in_err-whole.ensures.other (before-digits c.args.scale c.args.number.now e)))

pub returns-clause-decimal : goal.returns-clause-decimal
returns-clause-decimal c =
    decimal-found c.args.scale c.args.number.now c.in_ok-whole.places.now c.in_ok-whole.whole c.in_ok-whole.ensures.digits.1 c.in_ok-whole.ensures.places c.with_places.result
    (sym c.has_digit.ensures ∙ c.if-not-has_digit.false) c.in_ok-whole.ensures.digits.0 c.with_places.ensures.digits c.with_places.ensures.form

pub returns-clause-other : goal.returns-clause-other
returns-clause-other c =
    decimal-missed c.args.scale c.args.number.now c.in_ok-whole.places.now c.in_ok-whole.whole c.in_ok-whole.ensures.digits.1 c.in_ok-whole.ensures.places c.with_places.result c.with_places.ensures.other
