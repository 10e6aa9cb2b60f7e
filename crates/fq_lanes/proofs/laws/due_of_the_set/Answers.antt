use Rattle.fq_lanes.proofs.SetLemmas.{due_of_the_set}
use Rattle.fq_lanes.proofs.laws.due_of_the_set.Goals as goal

pub returns : goal.returns
returns g c files events others a b same = due_of_the_set files events others a b same
