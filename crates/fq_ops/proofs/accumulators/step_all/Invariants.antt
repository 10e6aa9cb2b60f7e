use Rattle.std.proofs.Common.{◌≡◌, ◌+◌, ℕ, length, map, take}
use Rattle.std.specs.Prelude.{All}
use Rattle.fq_ops.specs.Accumulated.{stepped_along}
use Rattle.fq_ops.specs.Running.{IsBoundedBy}
use Rattle.fq_ops.proofs.accumulators.step_all.Given as goal

abbrev pub invariant-loop-row : goal.invariant-loop-row
invariant-loop-row g l = record {
  items : map g.S.State.running l.states.items ≡ stepped_along (map g.S.State.running l.fn.states.items) (take l.row l.numbers) (take l.row l.column.cells);
  size : length l.states.items ≡ length l.fn.states.items;
  bounded : (n : ℕ) → All (IsBoundedBy n) (map g.S.State.running l.fn.states.items) → All (IsBoundedBy (n + l.row)) (map g.S.State.running l.states.items);
}
