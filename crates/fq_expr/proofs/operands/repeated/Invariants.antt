use Rattle.std.proofs.Common.{◌≡◌, replicate, option_copied}
use Rattle.fq_expr.proofs.operands.repeated.Given as goal

abbrev pub invariant-loop-i : goal.invariant-loop-i
invariant-loop-i g l = l.array ≡ replicate l._i (option_copied l.fn.value)
