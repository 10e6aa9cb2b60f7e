use Rattle.std.specs.Prelude.{◌≡◌, ◌≤◌, List, length, take}
use Rattle.fq_csv.specs.Cutting.{AreRecords}
use Rattle.fq_csv.specs.File.{Record}
use Rattle.fq_csv.proofs.cutting.whole_records.Given as goal

abbrev pub invariant-loop-count : goal.invariant-loop-count
invariant-loop-count l = record {
  high : l.end ≤ length l.text;
  rs : List Record;
  count : length rs ≡ l.count;
  whole : AreRecords (take l.end l.text) rs;
}
