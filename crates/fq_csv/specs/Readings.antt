-- How the fields of each column are read.
use Rattle.std.specs.Prelude.{◌≡◌, ◌<◌, ℕ, Bool, true, false, List, length, slice_index_or, Option}
use Rattle.fq_column.specs.declared.cells.Cell.{Cell}
use Rattle.fq_column.specs.declared.cells.Kind.{Kind}
use Rattle.fq_column.specs.declared.cells.Kind.TheVariants as kind
use Rattle.fq_notation.specs.declared.notations.Notation.{Notation}
use Rattle.fq_notation.specs.declared.notations.Notation.TheVariants as notation
use Rattle.fq_csv.specs.Field.{cell_under}
use Rattle.fq_csv.specs.declared.cells.layouts.Layout.{Layout}
use Rattle.fq_csv.specs.declared.cells.readings.Reading.{Reading}
use Rattle.fq_csv.specs.declared.cells.readings.Reading.TheVariants as reading

-- how the fields of a column are read, by its kind, the notation of its ints and whether it is kept
abbrev pub reading_of : Kind → Notation → Bool → Reading
reading_of k n false = reading.Judged k n
reading_of kind.Whole notation.Plain true = reading.Whole
reading_of kind.Whole (notation.Decimal scale) true = reading.Decimal scale
reading_of kind.Whole notation.Date true = reading.Date
reading_of kind.Text n true = reading.Text
reading_of kind.Truth n true = reading.Truth

abbrev pub kind_by : Reading → Kind
kind_by reading.Whole = kind.Whole
kind_by (reading.Decimal scale) = kind.Whole
kind_by reading.Date = kind.Whole
kind_by reading.Text = kind.Text
kind_by reading.Truth = kind.Truth
kind_by (reading.Judged k n) = k

abbrev pub notation_by : Reading → Notation
notation_by reading.Whole = notation.Plain
notation_by (reading.Decimal scale) = notation.Decimal scale
notation_by reading.Date = notation.Date
notation_by reading.Text = notation.Plain
notation_by reading.Truth = notation.Plain
notation_by (reading.Judged k n) = n

abbrev pub is_kept_by : Reading → Bool
is_kept_by reading.Whole = true
is_kept_by (reading.Decimal scale) = true
is_kept_by reading.Date = true
is_kept_by reading.Text = true
is_kept_by reading.Truth = true
is_kept_by (reading.Judged k n) = false

-- whether the column is kept, and its ints are in digits
abbrev pub is_plain : Reading → Bool
is_plain reading.Whole = true
is_plain (reading.Decimal scale) = false
is_plain reading.Date = false
is_plain reading.Text = true
is_plain reading.Truth = true
is_plain (reading.Judged k n) = false

-- the cell that a field is by a reading, if it is one
abbrev pub cell_read : List (List ℕ) → Reading → List ℕ → Option Cell
cell_read nulls r field = cell_under nulls (kind_by r) (notation_by r) field

-- how the fields of the column at a place are read, by the columns' kinds
abbrev pub reading_at : List Kind → Layout → ℕ → Reading
reading_at kinds layout i = reading_of (slice_index_or kinds i kind.Whole) (slice_index_or layout.notations i notation.Plain) (slice_index_or layout.projection i true)

-- a reading for each column
pub record AreReadings (kinds : List Kind) (layout : Layout) (readings : List Reading) : Type 0 where
  pub count : length readings ≡ length kinds
  pub each : (i : ℕ) → i < length readings → (other : Reading) → slice_index_or readings i other ≡ reading_at kinds layout i
