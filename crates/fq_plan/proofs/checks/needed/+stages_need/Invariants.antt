use Rattle.std.proofs.Common.{length}
use Rattle.fq_plan.proofs.checks.needed.+stages_need.Given as goal

abbrev pub decreases-stages_need : goal.decreases-stages_need
decreases-stages_need l = length l.stages.now
