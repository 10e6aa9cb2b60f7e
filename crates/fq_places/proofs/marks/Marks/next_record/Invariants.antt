use Rattle.std.proofs.Common.{◌≡◌, ◌++◌, List}
use Rattle.fq_places.specs.Marks.{HasMarks, IsSound}
use Rattle.fq_places.specs.Records.{flaws_of, lines_of}
use Rattle.fq_places.specs.declared.marks.Mark.{Mark}
use Rattle.fq_places.proofs.marks.Marks.next_record.Given as goal

abbrev pub invariant-loop : goal.invariant-loop
invariant-loop g l = record {
  sound : IsSound l.self;
  left : (marks : List Mark) → HasMarks g.R.Read.remaining l.fn.self marks → (rest : List Mark) × HasMarks g.R.Read.remaining l.self rest
      × (lines_of marks ≡ lines_of rest) × (l.fn.flaws.items ++ flaws_of marks ≡ l.flaws.items ++ flaws_of rest);
}
