use Rattle.fq_lanes.proofs.ScheduleLemmas.{schedules_settle}
use Rattle.fq_lanes.proofs.laws.schedules_settle.Goals as goal

pub returns : goal.returns
returns g c work items workers events s = schedules_settle work items workers events s
