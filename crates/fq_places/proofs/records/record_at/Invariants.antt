use Rattle.std.proofs.Common.{◌≡◌, ◌-◌, ℕ, List, Some}
use Rattle.std.specs.Prelude.{slice_get}
use Rattle.csv.specs.Reading.{default_config, records, strip_bom}
use Rattle.fq_csv.specs.File.{Record}
use Rattle.fq_csv.specs.Readers.{HasLeft, IsPlain}
use Rattle.fq_places.proofs.records.record_at.Given as goal

abbrev pub invariant-loop : goal.invariant-loop
invariant-loop g l = record {
  plain : IsPlain l.reader;
  left : (bytes : List ℕ) → g.R.Read.remaining l.fn.reader ≡ Some bytes → (rest : List Record) × HasLeft g.R.Read.remaining l.reader rest
      × (slice_get (records default_config (strip_bom bytes)) l.fn.number ≡ slice_get rest (l.fn.number - l.counter));
}
