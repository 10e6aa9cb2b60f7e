use Rattle.std.proofs.Common.{length}
use Rattle.fq_run.proofs.gathering.+take_in.Given as goal

abbrev pub decreases-take_in : goal.decreases-take_in
decreases-take_in l = length l.sources.now
