use Rattle.fq_places.proofs.LineCountLemmas.{as-many-lines}
use Rattle.fq_places.proofs.laws.lines_of_records.Goals as goal

pub returns : goal.returns
returns c = as-many-lines
