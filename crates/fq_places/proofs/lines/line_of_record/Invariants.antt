use Rattle.std.proofs.Common.{◌≡◌, ℕ, List, Some}
use Rattle.std.specs.Prelude.{slice_get}
use Rattle.fq_places.specs.Marks.{HasMarks, IsSound}
use Rattle.fq_places.specs.Records.{lines_of, record_lines}
use Rattle.fq_places.specs.declared.marks.Mark.{Mark}
use Rattle.fq_places.proofs.lines.line_of_record.Given as goal

abbrev pub invariant-loop : goal.invariant-loop
invariant-loop g l = record {
  sound : IsSound l.marks;
  left : (bytes : List ℕ) → g.R.Read.remaining l.fn.reader ≡ Some bytes → (marks : List Mark) × HasMarks g.R.Read.remaining l.marks marks
      × (slice_get (record_lines bytes) l.fn.number ≡ slice_get (lines_of marks) l.left);
}
