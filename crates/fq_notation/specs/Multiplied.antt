-- Ints that are multiplied. If each place after the point counts for 10 * r in place of 10, an int of scale s is r ^ s times what it was.
use Rattle.std.specs.Prelude.{◌^◌, ℕ, List, pos, ◌*ℤ◌}
use Rattle.std.specs.Option.{option_map_or}
use Rattle.fq_column.specs.declared.cells.Cell.{Cell}
use Rattle.fq_column.specs.declared.cells.Cell.TheVariants.{Null, Whole, Text, Truth}
use Rattle.fq_column.specs.Frame.{Field, Fields, Row}
use Rattle.fq_column.specs.Lists.{zip_with}
use Rattle.fq_notation.specs.Naming.{column_followed}
use Rattle.fq_notation.specs.Notation.{Named}
use Rattle.fq_notation.specs.declared.followed.Followed.{Followed}
use Rattle.fq_notation.specs.declared.followed.Followed.TheVariants.{Numbers, Days, Others}

-- a cell, whose int is multiplied by m
abbrev pub times : ℕ → Cell → Cell
times m Null = Null
times m (Whole z) = Whole (pos m *ℤ z)
times m (Text t) = Text t
times m (Truth b) = Truth b

-- by what ints are multiplied: r to the power of their scale; digits, days, and numbers whose scale is not read stay
abbrev pub factor : ℕ → Followed → ℕ
factor r (Numbers scales) = option_map_or (λ n. r ^ n) scales.read 1
factor r Days = 1
factor r Others = 1

-- a row, whose ints are multiplied each by its column's factor
abbrev pub rescaled : ℕ → Fields → List Named → Row → Row
rescaled r fields named row = zip_with (λ (f : Field) c. times (factor r (column_followed fields named f.0)) c) fields row
