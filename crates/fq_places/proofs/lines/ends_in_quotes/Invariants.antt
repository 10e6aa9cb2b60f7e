use Rattle.std.proofs.Common.{◌≡◌, ℕ, List, Some}
use Rattle.std.specs.List.{list_any}
use Rattle.fq_places.specs.Marks.{HasMarks, IsSound}
use Rattle.fq_places.specs.Records.{ends_in_quotes, is_open_quote}
use Rattle.fq_places.specs.declared.marks.Mark.{Mark}
use Rattle.fq_places.proofs.lines.ends_in_quotes.Given as goal

abbrev pub invariant-loop : goal.invariant-loop
invariant-loop g l = record {
  sound : IsSound l.marks;
  left : (bytes : List ℕ) → g.R.Read.remaining l.fn.reader ≡ Some bytes → (marks : List Mark) × HasMarks g.R.Read.remaining l.marks marks
      × (ends_in_quotes bytes ≡ list_any (λ (mark : Mark). is_open_quote mark.flaw) marks);
}
