use Rattle.std.proofs.Common.{◌≡◌, ◌+◌, List, length}
use Rattle.std.specs.Prelude.{◌==◌, ◌&&◌}
use Rattle.std.specs.List.{list_all}
use Rattle.fq_csv.specs.File.{Record}
use Rattle.fq_csv.specs.Readers.{HasLeft, IsPlain}
use Rattle.fq_places.specs.Marks.{HasMarks, IsSound}
use Rattle.fq_places.specs.declared.marks.Mark.{Mark}
use Rattle.fq_review.specs.Checked.{is_flawless, is_row, layout_of}
use Rattle.fq_review.proofs.checks.Check.judge_rows.Given as goal

abbrev pub invariant-loop : goal.invariant-loop
invariant-loop g l = record {
  plain : IsPlain l.records.records;
  sound : IsSound l.records.marks;
  judged : (rs : List Record) (marks : List Mark) → HasLeft g.A.Read.remaining l.fn.records.records rs → HasMarks g.B.Read.remaining l.fn.records.marks marks →
      (more : List Record) × (rest : List Mark) × HasLeft g.A.Read.remaining l.records.records more × HasMarks g.B.Read.remaining l.records.marks rest × (length rs ≡ l.counter + length more)
      × (((l.fn.self.problems == 0) && (list_all (is_row (layout_of l.fn.file.expected.columns.now l.fn.file.expected.nulls.now l.fn.file.expected.notations.now)) rs && is_flawless marks))
      ≡ ((l.self.problems == 0) && (list_all (is_row (layout_of l.fn.file.expected.columns.now l.fn.file.expected.nulls.now l.fn.file.expected.notations.now)) more && is_flawless rest)));
}
