use Rattle.std.proofs.Common.{length}
use Rattle.fq_notation.proofs.DecimalLemmas.{IsReadTo}
use Rattle.fq_notation.proofs.decimals.digits_and_places.Given as goal

abbrev pub invariant-loop-rest : goal.invariant-loop-rest
invariant-loop-rest l = IsReadTo l.number l.digits l.places l.rest

abbrev pub decreases-loop-rest : goal.decreases-loop-rest
decreases-loop-rest l = length l.rest
