use Rattle.std.proofs.Common.{length}
use Rattle.fq_plan.proofs.noted.following.+is_computed.Given as goal

abbrev pub decreases-is_computed : goal.decreases-is_computed
decreases-is_computed l = length l.steps.now
