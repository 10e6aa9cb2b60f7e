-- Rows, schemas and frames. A row is a list of values, a schema a list of 1 to 64 distinct names with their kinds, a frame a schema and rows that fit it.
use Rattle.std.specs.Prelude.{ℕ, ◌≤◌, Bool, List, [], ◌∷◌, map, length, IsTrue, nat_eq, slice_index_or, Option, position, replicate, fold, if◌then◌else◌}
use Rattle.std.specs.List.{AllPass, list_any}
use Rattle.std.specs.Option.{option_map_or}
use lib.Pointwise.{pointwise}
use Rattle.fq_column.specs.declared.cells.Kind.{Kind}
use Rattle.fq_column.specs.declared.schemas.TheConstants.{MAX_COLUMNS}
use Rattle.fq_column.specs.declared.cells.Cell.{Cell}
use Rattle.fq_column.specs.declared.cells.Cell.TheVariants.{Null}
use Rattle.fq_column.specs.Cell.{has_kind}
use Rattle.fq_column.specs.Lists.{zip_with, is_distinct}

-- a name, as its UTF-8 bytes
abbrev pub Name : Type 0
Name = List ℕ

-- a name and the kind of its column
abbrev pub Field : Type 0
Field = Name × Kind

abbrev pub Fields : Type 0
Fields = List Field

abbrev pub Row : Type 0
Row = List Cell

abbrev pub same_name : Name → Name → Bool
same_name = pointwise nat_eq

abbrev pub names_of : Fields → List Name
names_of fields = map (λ f. f.0) fields

abbrev pub kinds_of : Fields → List Kind
kinds_of fields = map (λ f. f.1) fields

-- the place of a name
abbrev pub position_of : Name → List Name → Option ℕ
position_of name names = position (same_name name) names

abbrev pub has_name : List Name → Name → Bool
has_name names name = list_any (same_name name) names

-- what stands under names, with x under this one: in the place of the name, or else last
abbrev pub put_named : {X : Type 0} → List (Name × X) → Name × X → List (Name × X)
put_named [] x = x ∷ []
put_named (p ∷ ps) x = if same_name x.0 p.0 then x ∷ ps else p ∷ put_named ps x

-- the same with each of xs in turn
abbrev pub put_all : {X : Type 0} → List (Name × X) → List (Name × X) → List (Name × X)
put_all ps xs = fold put_named ps xs

-- a schema has 1 to 64 columns, whose names differ
pub record IsSchema (fields : Fields) : Type 0 where
  pub some_column : 1 ≤ length fields
  pub not_too_many : length fields ≤ MAX_COLUMNS
  pub distinct : IsTrue (is_distinct same_name (names_of fields))

-- whether a row has a value of the right kind, or null, for each column
abbrev pub row_fits : Fields → Row → Bool
row_fits fields row = pointwise (λ (f : Field) c. has_kind f.1 c) fields row

-- a schema and rows that fit it
pub record Frame : Type 0 where
  pub fields : Fields
  pub rows : List Row

abbrev pub IsFrame : Frame → Type 0
IsFrame f = IsSchema f.fields × AllPass (row_fits f.fields) f.rows

-- the value of a row at a place
abbrev pub value_at : ℕ → Row → Cell
value_at i row = slice_index_or row i Null

-- a column of the rows
abbrev pub column_at : ℕ → List Row → List Cell
column_at i rows = map (value_at i) rows

-- the row's value in the column of a name
abbrev pub value_named : Fields → Name → Row → Cell
value_named fields name row = option_map_or (λ i. value_at i row) (position_of name (names_of fields)) Null

-- the n rows that stand in columns of n cells
abbrev pub rows_of : ℕ → List (List Cell) → List Row
rows_of n [] = replicate n []
rows_of n (column ∷ columns) = zip_with (λ c row. c ∷ row) column (rows_of n columns)
