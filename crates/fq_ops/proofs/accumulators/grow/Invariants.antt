use Rattle.std.proofs.Common.{◌≡◌, ◌-◌, ◌++◌, length, map, replicate}
use Rattle.fq_ops.specs.Running.{start_of}
use Rattle.fq_ops.proofs.accumulators.grow.Given as goal

abbrev pub invariant-loop : goal.invariant-loop
invariant-loop g l = record {
  items : map g.S.State.running l.states.items ≡ map g.S.State.running l.fn.states.items ++ replicate (l.counter - length l.fn.states.items) (start_of g.S.State.function);
  size : length l.states.items ≡ l.counter;
}
