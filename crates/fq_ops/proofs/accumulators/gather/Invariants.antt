use Rattle.std.proofs.Common.{◌≡◌, map}
use Rattle.fq_column.specs.Lists.{numbers}
use Rattle.fq_ops.specs.Accumulated.{running_pick}
use Rattle.fq_ops.specs.Picks.{column_of}
use Rattle.fq_ops.proofs.accumulators.gather.Given as goal

abbrev pub invariant-loop-group : goal.invariant-loop-group
invariant-loop-group g l = l.column ≡ column_of (numbers l.group) (running_pick l.fn.kind (map g.S.State.running l.states.items))
