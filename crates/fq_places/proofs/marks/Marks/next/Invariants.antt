use Rattle.std.proofs.Common.{List}
use Rattle.fq_places.specs.Marks.{HasMarks, IsSound}
use Rattle.fq_places.specs.declared.marks.Mark.{Mark}
use Rattle.fq_places.proofs.marks.Marks.next.Given as goal

abbrev pub invariant-loop : goal.invariant-loop
invariant-loop g l = record {
  sound : IsSound l.self;
  left : (marks : List Mark) → HasMarks g.R.Read.remaining l.fn.self marks → HasMarks g.R.Read.remaining l.self marks;
}
