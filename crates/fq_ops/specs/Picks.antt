-- Columns by what each takes of an item: a kind, and a function to cells.
use Rattle.std.specs.Prelude.{ℕ, suc, Bool, List, [], ◌∷◌, map, if◌then◌else◌}
use Rattle.fq_column.specs.declared.cells.Cell.{Cell}
use Rattle.fq_column.specs.declared.cells.Kind.{Kind}
use Rattle.fq_column.specs.Column.{Cells}
use Rattle.fq_column.specs.Frame.{Fields, Name, Row}

-- the kind of a column, and its cell for an item
abbrev pub Pick : Type 0 → Type 0
Pick X = Kind × (X → Cell)

module _ {X : Type 0} where
  abbrev pub column_of : List X → Pick X → Cells
  column_of xs p = record { kind = p.0; cells = map p.1 xs }

  -- the columns of items
  abbrev pub columns_of : List (Pick X) → List X → List Cells
  columns_of picks xs = map (column_of xs) picks

  -- what an item has in each column
  abbrev pub row_of : List (Pick X) → X → Row
  row_of picks x = map (λ p. p.1 x) picks

  -- the fields from place i on whose name is wanted, each with the value of its place
  abbrev pub picks_from : (Name → Bool) → (ℕ → X → Cell) → ℕ → Fields → List (Pick X)
  picks_from wanted value i [] = []
  picks_from wanted value i (f ∷ fields) = if wanted f.0 then (f.1, value i) ∷ picks_from wanted value (suc i) fields else picks_from wanted value (suc i) fields
