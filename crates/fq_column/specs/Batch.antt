-- What contracts see of a batch: a frame, whose rows stand in columns.
use Rattle.std.specs.Prelude.{◌≡◌, ℕ, All, Bool, List, [], ◌∷◌, ◌++◌, map, length, Option, Some, None, ◌==◌, not, if◌then◌else◌}
use Rattle.std.specs.List.{list_all, zip}
use Rattle.fq_column.specs.Cell.{same_kind}
use Rattle.fq_column.specs.declared.faults.BatchFault.{BatchFault}
use Rattle.fq_column.specs.declared.faults.BatchFault.TheVariants.{Width, Kind as WrongKind, Length}
use Rattle.fq_column.specs.declared.cells.Cell.{Cell}
use Rattle.fq_column.specs.declared.cells.Kind.{Kind}
use Rattle.fq_column.specs.Frame.{Fields, Field, Frame, IsSchema, Name, Row, kinds_of, names_of, put_named, rows_of}
use Rattle.fq_column.specs.Lists.{zip_with}
use Rattle.fq_column.specs.Column.{Cells, AreOfKind}
use lib.Pointwise.{pointwise}

-- how many cells the first column has, or 0
abbrev pub height_of : List Cells → ℕ
height_of [] = 0
height_of (c ∷ columns) = length c.cells

-- the frame that stands in the columns
abbrev pub frame_of : Fields → List Cells → Frame
frame_of fields columns = record { fields = fields; rows = rows_of (height_of columns) (map (λ c. c.cells) columns) }

-- whether a column is of the kind that a field says
abbrev pub has_kind_of : Field → Cells → Bool
has_kind_of f c = same_kind c.kind f.1

-- the first fault of columns for a schema: their number, a kind, a length
abbrev pub batch_fault : Fields → List Cells → Option BatchFault
batch_fault fields columns =
    if not (length columns == length fields) then Some Width else
    if not (pointwise has_kind_of fields columns) then Some WrongKind else
    if not (list_all (λ (c : Cells). length c.cells == height_of columns) columns) then Some Length else None

abbrev pub kind_of_cells : Cells → Kind
kind_of_cells c = c.kind

-- the column of a kind with no cell
abbrev pub without_cells : Kind → Cells
without_cells kind = record { kind = kind; cells = [] }

-- columns under a schema: they have the kinds of its fields, one length, and cells of their kinds
pub record StandsIn (fields : Fields) (columns : List Cells) : Type 0 where
  pub schema : IsSchema fields
  pub kinds : map kind_of_cells columns ≡ kinds_of fields
  pub lengths : All (λ (c : Cells). length c.cells ≡ height_of columns) columns
  pub cells : All AreOfKind columns

-- a column with other cells
abbrev pub with_cells : Cells → List Cell → Cells
with_cells c cells = record { kind = c.kind; cells = cells }

-- the cells of a column, then those of another
abbrev pub joined_cells : Cells → Cells → Cells
joined_cells c d = with_cells c (c.cells ++ d.cells)

-- a row with a value under a name: in the place of the name, or else last
abbrev pub row_with : Fields → Name → Row → Cell → Row
row_with fields name row value = map (λ p. p.1) (put_named (zip (names_of fields) row) (name, value))

-- a frame with a column under a name
abbrev pub frame_with : Frame → Name → Cells → Frame
frame_with f name column = record { fields = put_named f.fields (name, column.kind); rows = zip_with (row_with f.fields name) f.rows column.cells }
