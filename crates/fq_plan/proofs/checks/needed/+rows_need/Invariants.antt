use Rattle.std.proofs.Common.{length}
use Rattle.fq_plan.proofs.checks.needed.+rows_need.Given as goal

abbrev pub decreases-rows_need : goal.decreases-rows_need
decreases-rows_need l = length l.steps.now
