use Rattle.std.proofs.Common.{length}
use Rattle.fq_language.proofs.refusals.+judge_steps.Given as goal

abbrev pub decreases-judge_steps : goal.decreases-judge_steps
decreases-judge_steps l = length l.steps.now
