use Rattle.std.proofs.Common.{◌≡◌, map, take}
use Rattle.fq_notation.specs.Notation.{notation_in}
use Rattle.fq_notation.proofs.named.NamedNotations.of_columns.Given as goal

-- the notations of the columns so far
abbrev pub invariant-loop-column : goal.invariant-loop-column
invariant-loop-column l = l.notations.items ≡ map (notation_in l.self) (take l.column l.columns)
