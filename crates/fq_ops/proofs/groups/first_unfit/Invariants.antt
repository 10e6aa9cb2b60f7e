use Rattle.std.proofs.Common.{◌≡◌, None}
use Rattle.fq_column.specs.Lists.{numbers}
use Rattle.fq_ops.specs.Accumulated.{first_found, out_of_range_in}
use Rattle.fq_ops.proofs.groups.first_unfit.Given as goal

abbrev pub invariant-loop-group : goal.invariant-loop-group
invariant-loop-group l = first_found (out_of_range_in l.accumulators) (numbers l.group) ≡ None
