use Rattle.std.proofs.Common.{◌-◌}
use Rattle.fq_lanes.proofs.threads.+start_workers_from.Given as goal

abbrev pub decreases-start_workers_from : goal.decreases-start_workers_from
decreases-start_workers_from g l = l.crew.now.workers - l.from
