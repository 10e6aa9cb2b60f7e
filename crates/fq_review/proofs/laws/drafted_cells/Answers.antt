use Rattle.fq_review.proofs.DraftedKindLemmas.{drafted-read}
use Rattle.fq_review.proofs.laws.drafted_cells.Goals as goal

pub returns : goal.returns
returns c = drafted-read
