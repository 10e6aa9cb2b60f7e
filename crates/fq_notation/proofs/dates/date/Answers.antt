use Rattle.std.proofs.Common.{arith}
use Rattle.fq_notation.proofs.DateLemmas.{no-day, no-month, no-year, two-digits}
use Rattle.fq_notation.proofs.dates.date.Goals as goal

pub returns-in_err-year : goal.returns-in_err-year
returns-in_err-year c = rw c.from_residual.ensures (no-year c.args.field.now c.in_err-year.ensures.other)

pub returns-in_err-month : goal.returns-in_err-month
returns-in_err-month c = rw c.from_residual-in_err-month.ensures (no-month c.args.field.now c.in_err-month.ensures.other)

pub returns-in_err-day : goal.returns-in_err-day
returns-in_err-day c = rw c.from_residual-in_err-day.ensures (no-day c.args.field.now c.in_err-day.ensures.other)

pub is_day-requires-clause-month : goal.is_day-requires-clause-month
is_day-requires-clause-month c = let told = c.in_ok-month.ensures.digits in omega (arith, told.1, two-digits 5 c.args.field.now told.0)

pub is_day-requires-clause-day : goal.is_day-requires-clause-day
is_day-requires-clause-day c = let told = c.in_ok-day.ensures.digits in omega (arith, told.1, two-digits 8 c.args.field.now told.0)
