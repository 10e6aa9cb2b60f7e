-- What an operation reads: a column's values, or one value that stands in each row.
use Rattle.std.specs.Prelude.{◌≡◌, ℕ, ◌≤◌, List, map, take, length, replicate, Option, Some, slice_get}
use Rattle.std.specs.Option.{option_copied}
use Rattle.fq_column.specs.declared.cells.Cell.{Cell}
use Rattle.fq_column.specs.declared.cells.Cell.TheVariants as cell
use Rattle.fq_column.specs.declared.cells.Kind.{Kind}
use Rattle.fq_column.specs.declared.cells.Kind.TheVariants as kind
use Rattle.fq_column.specs.Column.{nullable}
use Rattle.fq_expr.specs.declared.operands.Operand.{Operand}
use Rattle.fq_expr.specs.declared.operands.Operand.TheVariants.{Borrowed, Owned, Scalar}
use Rattle.fq_expr.specs.declared.operands.AnyOperand.{AnyOperand}
use Rattle.fq_expr.specs.declared.operands.AnyOperand.TheVariants.{Whole, Text, Truth}

module _ {T : Type 0} where
  -- there is a value, or null, for each of n rows
  abbrev pub HasRows : ℕ → Operand T → Type 0
  HasRows n (Borrowed array) = n ≤ length array.now
  HasRows n (Owned array) = n ≤ length array
  HasRows n (Scalar x) = Unit {0}

  -- the value in row i, or null, is v
  abbrev pub IsInRow : ℕ → Operand T → Option T → Type 0
  IsInRow i (Borrowed array) v = slice_get array.now i ≡ Some v
  IsInRow i (Owned array) v = slice_get array i ≡ Some v
  IsInRow i (Scalar x) v = option_copied x ≡ v

  -- the values in the first n rows
  abbrev pub first_values : ℕ → Operand T → List (Option T)
  first_values n (Borrowed array) = take n array.now
  first_values n (Owned array) = take n array
  first_values n (Scalar x) = replicate n (option_copied x)

  -- the cells in the first n rows, where `make` makes a cell of a value
  abbrev pub cells_in : (T → Cell) → ℕ → Operand T → List Cell
  cells_in make n operand = map (nullable make) (first_values n operand)

-- the same for an operand of any kind
abbrev pub kind_in_rows : AnyOperand → Kind
kind_in_rows (Whole operand) = kind.Whole
kind_in_rows (Text operand) = kind.Text
kind_in_rows (Truth operand) = kind.Truth

abbrev pub AnyHasRows : ℕ → AnyOperand → Type 0
AnyHasRows n (Whole operand) = HasRows n operand
AnyHasRows n (Text operand) = HasRows n operand
AnyHasRows n (Truth operand) = HasRows n operand

abbrev pub cells_in_rows : ℕ → AnyOperand → List Cell
cells_in_rows n (Whole operand) = cells_in cell.Whole n operand
cells_in_rows n (Text operand) = cells_in cell.Text n operand
cells_in_rows n (Truth operand) = cells_in cell.Truth n operand
