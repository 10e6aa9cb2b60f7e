use Rattle.fq_lanes.proofs.DueLemmas.{due_grows}
use Rattle.fq_lanes.proofs.laws.due_grows.Goals as goal

pub returns : goal.returns
returns g c files es ds a = due_grows files es ds a
