use Rattle.std.specs.Prelude.{◌≤◌, ◌-◌, length}
use Rattle.fq_csv.specs.Cutting.{NoneStops}
use Rattle.fq_csv.proofs.cutting.stop_from.Given as goal

abbrev pub invariant-lanes : goal.invariant-lanes
invariant-lanes l = record {
  low : l.from ≤ l.at;
  high : l.at ≤ length l.text;
  none : NoneStops l.text l.from l.at;
}

abbrev pub decreases-lanes : goal.decreases-lanes
decreases-lanes l = length l.text - l.at

abbrev pub invariant-loop-i : goal.invariant-loop-i
invariant-loop-i l = NoneStops l.text l.from l.i
