use Rattle.std.proofs.Common.{arith}
use Rattle.fq_notation.proofs.DecimalLemmas.{at-point, begins, behind-point, no-number, no-places, no-point}
use Rattle.fq_notation.proofs.decimals.split_point.Goals as goal

pub returns-in_err-whole-clause-other : goal.returns-in_err-whole-clause-other
returns-in_err-whole-clause-other c = rw c.from_residual.ensures (λ a. omega (arith, c.in_err-whole.ensures.too_large, begins c.args.number.now))

pub returns-in-empty-clause-digits : goal.returns-in-empty-clause-digits
returns-in-empty-clause-digits c = no-point c.args.number.now c.in_ok-whole.rest.now c.in_ok-whole.ensures.rest c.in_ok-whole.whole (omega arith) c.in_ok-whole.ensures.number

pub returns-in-empty-clause-places : goal.returns-in-empty-clause-places
returns-in-empty-clause-places c = no-places c.args.number.now c.in_ok-whole.rest.now c.in_ok-whole.ensures.rest (omega arith)

pub returns-in-46-clause-digits : goal.returns-in-46-clause-digits
returns-in-46-clause-digits c = at-point c.args.number.now c.in_ok-whole.rest.now c.in_ok-whole.ensures.rest c.in_ok-whole.whole (omega arith) (omega arith) c.in_ok-whole.ensures.number

pub returns-in-46-clause-places : goal.returns-in-46-clause-places
returns-in-46-clause-places c = behind-point c.args.number.now c.in_ok-whole.rest.now c.in_ok-whole.ensures.rest (omega arith) (omega arith)

pub returns-in_default-clause-other : goal.returns-in_default-clause-other
returns-in_default-clause-other c = λ a. absurd (no-number c.args.number.now c.in_ok-whole.rest.now c.in_ok-whole.ensures.rest (omega arith) (omega arith) a)
