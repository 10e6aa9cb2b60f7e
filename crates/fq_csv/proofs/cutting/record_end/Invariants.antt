use Rattle.std.specs.Prelude.{◌≤◌, ◌-◌, length}
use Rattle.fq_csv.specs.Cutting.{IsAt, begins, outside}
use Rattle.fq_csv.proofs.cutting.record_end.Given as goal

abbrev pub invariant-loop-from : goal.invariant-loop-from
invariant-loop-from l = record {
  first : l.from ≤ l.start;
  low : l.start ≤ l.at;
  high : l.at ≤ length l.text;
  at : IsAt l.text l.from l.at (outside (begins l.text l.start l.at));
}

abbrev pub decreases-loop-from : goal.decreases-loop-from
decreases-loop-from l = length l.text - l.at
