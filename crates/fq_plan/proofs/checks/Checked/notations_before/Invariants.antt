use Rattle.std.proofs.Common.{◌≡◌, Ok}
use Rattle.fq_plan.specs.Followed.{notations_before}
use Rattle.fq_plan.proofs.checks.Checked.notations_before.Given as goal

abbrev pub invariant-loop-before : goal.invariant-loop-before
invariant-loop-before l = notations_before l.declared l.self l.before ≡ Ok l.named
