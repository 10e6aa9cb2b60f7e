use Rattle.std.proofs.Common.{◌≡◌, true}
use Rattle.std.specs.Prelude.{is_some}
use Rattle.std.specs.List.{AllWithin}
use Rattle.fq_ops.specs.Accumulated.{value_in}
use Rattle.fq_ops.proofs.groups.unfit_in.Given as goal

abbrev pub invariant-loop-i : goal.invariant-loop-i
invariant-loop-i l = AllWithin (λ a. is_some (value_in l.group a) ≡ true) l.accumulators 0 l.i
