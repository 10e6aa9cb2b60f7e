use Rattle.std.specs.Prelude.{◌≤◌, ◌-◌, ℕ, length}
use Rattle.csv.specs.declared.parser.State.TheVariants.{InQuoted}
use Rattle.fq_csv.specs.Cutting.{IsIn, between}
use Rattle.fq_csv.proofs.cutting.quotes_end.Given as goal

abbrev pub invariant-loop-from : goal.invariant-loop-from
invariant-loop-from l = record {
  low : l.from ≤ l.at;
  high : l.at ≤ length l.text;
  inside : (base : ℕ) → base ≤ l.from → IsIn (between l.text base l.from) InQuoted → IsIn (between l.text base l.at) InQuoted;
}

abbrev pub decreases-loop-from : goal.decreases-loop-from
decreases-loop-from l = length l.text - l.at
