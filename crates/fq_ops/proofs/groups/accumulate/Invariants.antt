use Rattle.std.proofs.Common.{◌≡◌, ◌+◌, ◌++◌, ℕ, length, map, take, drop}
use Rattle.std.specs.Prelude.{All}
use Rattle.std.specs.List.{AllWithin}
use Rattle.fq_ops.specs.Accumulated.{IsAccumulator, accumulated}
use Rattle.fq_ops.specs.Running.{IsBoundedBy}
use Rattle.fq_ops.proofs.groups.accumulate.Given as goal

abbrev pub invariant-loop-i : goal.invariant-loop-i
invariant-loop-i l = record {
  items : l.accumulators.items ≡ map (accumulated l.groups l.numbers l.batch.rows) (take l.i l.fn.accumulators.items) ++ drop l.i l.fn.accumulators.items;
  size : length l.accumulators.items ≡ length l.fn.accumulators.items;
  ready : (n : ℕ) → All (λ a. All (IsBoundedBy n) a.states) l.fn.accumulators.items → AllWithin (IsAccumulator (length l.batch.fields) l.groups (n + length l.numbers)) l.accumulators.items 0 l.i;
}
