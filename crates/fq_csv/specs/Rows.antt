-- Rows that are added to columns.
use Rattle.std.specs.Prelude.{◌≡◌, ◌<◌, ℕ, All, take, List, [], ◌∷◌, ◌++◌, length, map, Result}
use Rattle.fq_column.specs.declared.cells.Kind.{Kind}
use Rattle.fq_column.specs.declared.cells.Cell.{Cell}
use Rattle.fq_column.specs.Column.{Cells}
use Rattle.fq_column.specs.Frame.{Row, rows_of}
use Rattle.fq_column.specs.Lists.{zip_with, all_or_missing}
use Rattle.fq_notation.specs.declared.notations.Notation.{Notation}
use Rattle.fq_csv.specs.Field.{cell_under}
use Rattle.fq_csv.specs.File.{Record, cells_by}
use Rattle.fq_csv.specs.Records.{IsOfText}
use Rattle.fq_csv.specs.declared.scanning.stages.Stage.{Stage}
use Rattle.fq_csv.specs.declared.scanning.stages.Stage.TheVariants as stage

abbrev pub kinds_in : List Cells → List Kind
kinds_in columns = map (λ (c : Cells). c.kind) columns

-- a column with one more cell
abbrev pub with_cell : Cells → Cell → Cells
with_cell column cell = record { kind = column.kind; cells = column.cells ++ cell ∷ [] }

-- columns with one more row
abbrev pub with_row : List Cells → Row → List Cells
with_row columns row = zip_with with_cell columns row

-- the row that a record's fields are under columns of these kinds and notations, where these texts are null, or the place of the first field
-- that is not a cell
abbrev pub row_by_kinds : List (List ℕ) → List Notation → List Kind → Record → Result Row ℕ
row_by_kinds nulls notations kinds fs = all_or_missing (cells_by (cell_under nulls) notations kinds fs)

-- the columns have these kinds and hold these rows
pub record Holds (kinds : List Kind) (columns : List Cells) (rows : List Row) : Type 0 where
  pub same_kinds : kinds_in columns ≡ kinds
  pub lengths : All (λ (c : Cells). length c.cells ≡ length rows) columns
  pub same_rows : rows_of (length rows) (map (λ (c : Cells). c.cells) columns) ≡ rows

-- the first n cells of a column
abbrev pub first_cells : ℕ → Cells → Cells
first_cells n column = record { kind = column.kind; cells = take n column.cells }

-- the text ended the rows before there were `size` of them, or there are as many
abbrev pub EndsAt : Stage → ℕ → ℕ → Type 0
EndsAt stage.Header size count = ⊥
EndsAt stage.Rows size count = count ≡ size
EndsAt (stage.Closed fault) size count = (count < size) × IsOfText fault
EndsAt (stage.Failed fault) size count = ⊥
