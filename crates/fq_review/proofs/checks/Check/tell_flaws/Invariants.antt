use Rattle.std.proofs.Common.{◌≡◌, take}
use Rattle.std.specs.Prelude.{◌==◌, ◌&&◌}
use Rattle.fq_review.specs.Checked.{is_flawless}
use Rattle.fq_review.proofs.checks.Check.tell_flaws.Given as goal

abbrev pub invariant-loop-mark : goal.invariant-loop-mark
invariant-loop-mark g l = (l.self.problems == 0) ≡ ((l.fn.self.problems == 0) && is_flawless (take l.mark-index l.flaws))
