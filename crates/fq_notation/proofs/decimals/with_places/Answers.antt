use Rattle.fq_notation.proofs.DecimalLemmas.{many-places}
use Rattle.fq_notation.proofs.decimals.with_places.Goals as goal

pub returns-in_err-digits-clause-other : goal.returns-in_err-digits-clause-other
returns-in_err-digits-clause-other c =
    rw c.from_residual.ensures (λ e. many-places c.args.scale c.args.whole c.args.places.now c.split_places.result.0.now (rw c.places.ensures.value at c.split_places.ensures.kept) c.in_err-digits.ensures.other e)
