use Rattle.fq_ops.proofs.GroupPartLemmas.{groups-of_parts}
use Rattle.fq_ops.proofs.groups.groups_of_parts.Goals as goal

pub returns : goal.returns
returns c = groups-of_parts
