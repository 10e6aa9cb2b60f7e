use Rattle.std.proofs.Common.{◌≤◌, length, take}
use Rattle.fq_ops.specs.Pairs.{AreMarks}
use Rattle.fq_ops.proofs.pairs.Pairs.left_marks.Given as goal

abbrev pub invariant-loop-place : goal.invariant-loop-place
invariant-loop-place l = record {
  few : length l.marks.items ≤ l.rows;
  marks : AreMarks l.marks.items (take l.place-index l.place-items);
}
