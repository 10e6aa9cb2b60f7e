use Rattle.std.specs.Prelude.{◌≡◌, ◌++◌, List, length}
use Rattle.csv.specs.Reading.{default_config, records}
use Rattle.fq_csv.specs.File.{Record}
use Rattle.fq_csv.specs.Readers.{TextHasLeft, IsPlain}
use Rattle.fq_csv.proofs.TextRowLemmas.{HasRows}
use Rattle.fq_csv.proofs.cells.rows.push_all.Given as goal

abbrev pub invariant-loop-row : goal.invariant-loop-row
invariant-loop-row g l = record {
  plain : IsPlain l.reader;
  before : List Record;
  rest : List Record;
  left : TextHasLeft l.reader rest;
  split : records default_config l.fn.text ≡ before ++ rest;
  number : length before ≡ l.row;
  rows : HasRows l.layout before l.columns;
}
