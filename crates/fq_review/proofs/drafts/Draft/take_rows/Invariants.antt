use Rattle.std.proofs.Common.{◌≡◌, ◌++◌, List, reverse}
use Rattle.fq_csv.specs.File.{Record}
use Rattle.fq_csv.specs.Readers.{HasLeft, IsPlain}
use Rattle.fq_places.specs.Marks.{HasMarks, IsSound}
use Rattle.fq_places.specs.declared.marks.Mark.{Mark}
use Rattle.fq_review.specs.Checked.{names_in}
use Rattle.fq_review.specs.Drafted.{HasTaken}
use Rattle.fq_review.proofs.drafts.Draft.take_rows.Given as goal

abbrev pub invariant-loop : goal.invariant-loop
invariant-loop g l = record {
  plain : IsPlain l.records.records;
  sound : IsSound l.records.marks;
  files : l.source.files ≡ l.fn.source.files;
  names : names_in l.source.columns.items ≡ names_in l.fn.source.columns.items;
  taken : (rs : List Record) (marks : List Mark) → HasLeft g.A.Read.remaining l.fn.records.records rs → HasMarks g.B.Read.remaining l.fn.records.marks marks →
      (done more : List Record) × (rest : List Mark) × (rs ≡ done ++ more) × HasLeft g.A.Read.remaining l.records.records more × HasMarks g.B.Read.remaining l.records.marks rest
      × ((rows : List Record) → HasTaken l.self.reading l.fn.source rows → HasTaken l.self.reading l.source (reverse done ++ rows));
}
