use Rattle.std.proofs.Common.{◌≡◌, length}
use Rattle.fq_column.specs.Frame.{kinds_of}
use Rattle.fq_column.specs.Lists.{numbers}
use Rattle.fq_ops.specs.Accumulated.{group_picks}
use Rattle.fq_ops.specs.Picks.{columns_of}
use Rattle.fq_ops.proofs.groups.gather.Given as goal

abbrev pub invariant-loop-i : goal.invariant-loop-i
invariant-loop-i l = l.columns.items ≡ columns_of (group_picks l.width l.keys.keys l.accumulators (kinds_of l.output) l.i) (numbers (length l.keys.keys))
