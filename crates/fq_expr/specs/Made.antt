-- The columns that the items of a step were evaluated to, before those of the batch among them are copied or moved.
use Rattle.std.specs.Prelude.{◌≡◌, ◌<◌, ◌==◌, All, Bool, false, ℕ, List, length, map, take, Option, Some, Ok, get_or, slice_index_or}
use Rattle.fq_column.specs.declared.cells.Kind.TheVariants as kind
use Rattle.fq_column.specs.Batch.{with_cells, without_cells}
use Rattle.fq_column.specs.Column.{Cells}
use Rattle.fq_column.specs.Frame.{Frame, Row, column_at, kinds_of, value_at}
use Rattle.fq_expr.specs.declared.application.Made.{Made}
use Rattle.fq_expr.specs.declared.application.Made.TheVariants.{Column, Place}
use Rattle.fq_expr.specs.Expression.{Expression, Item}
use Rattle.fq_expr.specs.Kinds.{kind_of}
use Rattle.fq_expr.specs.Outputs.{SoFar}
use Rattle.fq_expr.specs.Value.{value_of}

-- a column of a frame
abbrev pub column_in : Frame → ℕ → Cells
column_in f place = record { kind = slice_index_or (kinds_of f.fields) place kind.Whole; cells = column_at place f.rows }

-- what an item was evaluated to, over a frame
abbrev pub made_column : Frame → Made → Cells
made_column f (Column c) = c
made_column f (Place place) = column_in f place

-- the same, over columns
abbrev pub column_of : List Cells → Made → Cells
column_of columns (Column c) = c
column_of columns (Place place) = get_or columns place (without_cells kind.Whole)

-- the first n cells of a column
abbrev pub first_of_column : ℕ → Cells → Cells
first_of_column n c = with_cells c (take n c.cells)

-- of a place alone
abbrev pub IfPlace : (ℕ → Type 0) → Made → Type 0
IfPlace P (Column c) = Unit {0}
IfPlace P (Place place) = P place

-- whether it is the column at this place
abbrev pub is_at : ℕ → Made → Bool
is_at place (Column c) = false
is_at place (Place p) = p == place

-- each place is one of so many
abbrev pub ArePlaces : ℕ → List Made → Type 0
ArePlaces width made = All (IfPlace (λ place. place < width)) made

-- the expression's value is that of the column at this place, in each row
pub record IsPlaceOf (f : Frame) (e : Expression) (place : ℕ) : Type 0 where
  pub below : place < length f.fields
  pub kind : kind_of f.fields e ≡ Ok (slice_index_or (kinds_of f.fields) place kind.Whole)
  pub values : (row : Row) → value_of f.fields e row ≡ Some (value_at place row)

-- the items' columns over a frame's rows, of which n stand before the first that faults
pub record AreEvaluated (f : Frame) (items : List Item) (made : List Made) (n : ℕ) (item : Option ℕ) : Type 0 where
  pub places : ArePlaces (length f.fields) made
  pub columns : SoFar f.fields items f.rows (map (made_column f) made) n item
