use Rattle.std.proofs.Common.{◌≡◌, map, take}
use Rattle.fq_language.specs.View.{field_of}
use Rattle.fq_notation.specs.Notation.{notation_in}
use Rattle.fq_messages.proofs.reviews.notations_of.Given as goal

-- the notations of the columns so far
abbrev pub invariant-loop-column : goal.invariant-loop-column
invariant-loop-column l = l.notations.items ≡ map (notation_in l.named) (map field_of (take l.column-index l.columns))
