-- What contracts see of a column: its kind and its cells.
use Rattle.std.specs.Prelude.{List, map, Option, Some, None}
use Rattle.std.specs.List.{AllPass}
use Rattle.fq_column.specs.declared.cells.Kind.{Kind}
use Rattle.fq_column.specs.declared.cells.Kind.TheVariants as kind
use Rattle.fq_column.specs.declared.cells.Cell.{Cell}
use Rattle.fq_column.specs.declared.cells.Cell.TheVariants as cell
use Rattle.fq_column.specs.declared.columns.Values.{Values}
use Rattle.fq_column.specs.declared.columns.Values.TheVariants.{Whole, Text, Truth}
use Rattle.fq_column.specs.Cell.{has_kind}

-- a kind and cells of that kind
pub record Cells : Type 0 where
  pub kind : Kind
  pub cells : List Cell

-- each cell is null or of the column's kind
abbrev pub AreOfKind : Cells → Type 0
AreOfKind column = AllPass (has_kind column.kind) column.cells

-- the cell of a value that may be missing
abbrev pub nullable : {X : Type 0} → (X → Cell) → Option X → Cell
nullable make None = cell.Null
nullable make (Some x) = make x

-- the cells that a column's values are
abbrev pub cells_of : Values → Cells
cells_of (Whole array) = record { kind = kind.Whole; cells = map (nullable cell.Whole) array }
cells_of (Text array) = record { kind = kind.Text; cells = map (nullable cell.Text) array }
cells_of (Truth array) = record { kind = kind.Truth; cells = map (nullable cell.Truth) array }
