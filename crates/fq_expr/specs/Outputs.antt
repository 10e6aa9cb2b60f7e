-- What the items of a step are evaluated to over a list of rows.
use Rattle.std.specs.Prelude.{◌≡◌, ◌≤◌, ℕ, suc, length, List, [], ◌∷◌, map, take, Option, Some, None, Result, Ok, Err, unwrap_or}
use Rattle.fq_column.specs.declared.cells.Cell.{Cell}
use Rattle.fq_column.specs.declared.cells.Cell.TheVariants.{Null}
use Rattle.fq_column.specs.declared.cells.Kind.{Kind}
use Rattle.fq_column.specs.declared.faults.StepFault.{StepFault}
use Rattle.fq_column.specs.Batch.{kind_of_cells}
use Rattle.fq_column.specs.Column.{Cells}
use Rattle.fq_column.specs.Frame.{Fields, Row}
use Rattle.fq_column.specs.Refusal.{and_then}
use Rattle.fq_expr.specs.Expression.{Expression, Item}
use Rattle.fq_expr.specs.Kinds.{kind_of}
use Rattle.fq_expr.specs.Steps.{item_values}
use Rattle.fq_expr.specs.Value.{value_of}

-- the kinds of all items, or the first refusal
abbrev pub all_kinds : Fields → List Item → Result (List Kind) StepFault
all_kinds fields [] = Ok []
all_kinds fields (i ∷ items) = and_then (kind_of fields i.1) (λ k. and_then (all_kinds fields items) (λ ks. Ok (k ∷ ks)))

-- the item that faults, if one does
abbrev pub fault_of : {X : Type 0} → Result X ℕ → Option ℕ
fault_of (Ok values) = None
fault_of (Err i) = Some i

-- the lowest item that faults on a row
abbrev pub item_fault : Fields → List Item → Row → Option ℕ
item_fault fields items row = fault_of (item_values fields items row)

-- one more, unless there is a fault
abbrev pub one_more_unless : Option ℕ → ℕ → ℕ
one_more_unless None n = suc n
one_more_unless (Some i) n = 0

-- the first fault of two
abbrev pub fault_or : Option ℕ → Option ℕ → Option ℕ
fault_or None g = g
fault_or (Some i) g = Some i

-- how many rows stand before the first that faults, and its fault
abbrev pub rows_before_fault : (Row → Option ℕ) → List Row → ℕ
rows_before_fault fault [] = 0
rows_before_fault fault (row ∷ rows) = one_more_unless (fault row) (rows_before_fault fault rows)

abbrev pub first_fault : (Row → Option ℕ) → List Row → Option ℕ
first_fault fault [] = None
first_fault fault (row ∷ rows) = fault_or (fault row) (first_fault fault rows)

-- the value on a row, with null for a fault
abbrev pub value_or_null : Fields → Expression → Row → Cell
value_or_null fields e row = unwrap_or (value_of fields e row) Null

abbrev pub cells_of_column : Cells → List Cell
cells_of_column c = c.cells

-- the columns of the items in the n rows before the first that faults, and the lowest item that faults there
pub record AreOutputs (fields : Fields) (items : List Item) (rows : List Row) (columns : List Cells) (n : ℕ) (item : Option ℕ) : Type 0 where
  pub kinds : all_kinds fields items ≡ Ok (map kind_of_cells columns)
  pub cells : map cells_of_column columns ≡ map (λ i. map (value_or_null fields i.1) (take n rows)) items
  pub rows_before : n ≡ rows_before_fault (item_fault fields items) rows
  pub fault : item ≡ first_fault (item_fault fields items) rows

-- the same of columns that may have more cells than there are rows
pub record SoFar (fields : Fields) (items : List Item) (rows : List Row) (columns : List Cells) (n : ℕ) (item : Option ℕ) : Type 0 where
  pub kinds : all_kinds fields items ≡ Ok (map kind_of_cells columns)
  pub cells : map (λ (c : Cells). take n c.cells) columns ≡ map (λ i. map (value_or_null fields i.1) (take n rows)) items
  pub rows_before : n ≡ rows_before_fault (item_fault fields items) rows
  pub fault : item ≡ first_fault (item_fault fields items) rows
  pub within : n ≤ length rows
