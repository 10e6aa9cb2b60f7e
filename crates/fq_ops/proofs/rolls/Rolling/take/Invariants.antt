use Rattle.std.proofs.Common.{◌≡◌, map, take, length}
use Rattle.fq_column.specs.Column.{nullable}
use Rattle.fq_column.specs.declared.cells.Cell.TheVariants.{Whole}
use Rattle.fq_ops.proofs.RollLemmas.{slid_along, IsSummed, IsFilled}
use Rattle.fq_ops.proofs.rolls.Rolling.take.Given as goal

abbrev pub invariant-loop-i : goal.invariant-loop-i
invariant-loop-i l = record {
  window : l.self.window ≡ l.fn.self.window;
  samples : l.self.min_samples ≡ l.fn.self.min_samples;
  faulted : l.self.faulted ≡ l.fn.self.faulted;
  last : l.self.last ≡ slid_along l.fn.self.window l.fn.self.last (map (nullable Whole) (take l.i l.values));
  summed : IsSummed l.fn.self.window l.fn.self.min_samples l.fn.self.last l.self.last l.values l.i (take l.i l.sums);
  filled : IsFilled (length l.values) l.i l.sums;
}
