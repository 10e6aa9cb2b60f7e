use Rattle.std.proofs.Common.{◌≡◌}
use Rattle.fq_column.specs.Lists.{numbers}
use Rattle.fq_ops.specs.Accumulated.{key_pick}
use Rattle.fq_ops.specs.Picks.{column_of}
use Rattle.fq_ops.proofs.key_sets.key_column.Given as goal

abbrev pub invariant-loop-i : goal.invariant-loop-i
invariant-loop-i l = l.column ≡ column_of (numbers l.i) (key_pick l.fn.kind l.place l.keys)
