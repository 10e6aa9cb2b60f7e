use Rattle.std.proofs.Common.{arith}
use Rattle.fq_notation.proofs.DecimalLemmas.{power-at}
use Rattle.fq_notation.proofs.decimals.times_power.Goals as goal

pub returns : goal.returns
returns c = rw (power-at c.args.places (omega (arith, c.requires))) at c.checked_mul.ensures
