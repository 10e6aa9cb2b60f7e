-- The rows that the records of a text are.
use Rattle.std.specs.Prelude.{◌≡◌, ◌<◌, ◌≤◌, ◌+◌, ◌==◌, false, IfSome, ℕ, List, length, Option, None, option_map, Err}
use Rattle.fq_column.specs.Column.{Cells}
use Rattle.fq_column.specs.Frame.{Row, kinds_of}
use Rattle.fq_csv.specs.File.{Record, rows_after}
use Rattle.fq_csv.specs.Rows.{Holds, kinds_in, row_by_kinds}
use Rattle.fq_csv.specs.declared.faults.ScanFault.{ScanFault}
use Rattle.fq_csv.specs.declared.faults.ScanFault.TheVariants.{Width, BadCell}
use Rattle.fq_csv.specs.declared.cells.layouts.Layout.{Layout}
use Rattle.fq_csv.specs.declared.cells.rows.NoRow.{NoRow}
use Rattle.fq_csv.specs.declared.cells.rows.NoRow.TheVariants as no

-- why a record is not a row under columns
abbrev pub IsNoRow : Layout → List Cells → Record → NoRow → Type 0
IsNoRow layout columns fs no.Width = (length fs == length columns) ≡ false
IsNoRow layout columns fs (no.BadCell i) = (length fs ≡ length columns) × (row_by_kinds layout.nulls layout.notations (kinds_in columns) fs ≡ Err i) × (i < length columns)

-- the fault of a record that is not a row, by its number
abbrev pub fault_by : ℕ → ℕ → NoRow → ScanFault
fault_by file n no.Width = Width file n
fault_by file n (no.BadCell column) = BadCell file n column

-- the same, in a run after some rows
abbrev pub run_fault : ℕ → ℕ → ℕ × NoRow → ScanFault
run_fault file before place = fault_by file (before + place.0 + 1) place.1

-- columns hold the rows that records are, up to the first that is not a row, at this place
pub record HoldsRowsOf (layout : Layout) (rs : List Record) (columns : List Cells) (bad : Option (ℕ × NoRow)) : Type 0 where
  pub rows : List Row
  pub held : Holds (kinds_of layout.schema) columns rows
  pub all : bad ≡ None → length rows ≡ length rs
  pub place : IfSome bad (λ p. (p.0 ≡ length rows) × (length rows < length rs))
  pub stream : (file before limit : ℕ) → before + length rs ≤ limit → rows_after file layout limit before rs ≡ record { rows = rows; fault = option_map (run_fault file before) bad }
