-- Row-wise steps on a stream (Polars, `LazyFrame.filter`, `with_columns`, `select`).
use Rattle.std.specs.Prelude.{ℕ, ◌+◌, Bool, false, List, [], ◌∷◌, map, zip, Some, None, Result, Ok, Err, if◌then◌else◌}
use Rattle.std.specs.Result.{result_map_both, result_unwrap_or}
use Rattle.fq_column.specs.declared.cells.Cell.{Cell}
use Rattle.fq_column.specs.declared.cells.Cell.TheVariants.{Truth}
use Rattle.fq_column.specs.Frame.{Fields, Row, names_of, put_all}
use Rattle.fq_column.specs.Lists.{all_or_missing}
use Rattle.fq_column.specs.Stream.{Stream, one_by_one, step_on}
use Rattle.fq_expr.specs.Kinds.{step_schema, item_names}
use Rattle.fq_expr.specs.Expression.{Item, Step, filter_by, with_columns, select}
use Rattle.fq_expr.specs.Value.{value_of}

abbrev pub is_true : Cell → Bool
is_true (Truth b) = b
is_true c = false

-- the values of the items on the row as it was, or the lowest item that faults
abbrev pub item_values : Fields → List Item → Row → Result (List Cell) ℕ
item_values fields items row = all_or_missing (map (λ i. value_of fields i.1 row) items)

-- the row with the values under the items' names: in the place of a name, or else last
abbrev pub with_values : Fields → List Item → List Cell → Row → Row
with_values fields items values row = map (λ p. p.1) (put_all (zip (names_of fields) row) (zip (item_names items) values))

-- the rows that a step makes of a row, none or one, or the item that faults
abbrev pub rows_after : Fields → Step → Row → Result (List Row) ℕ
rows_after fields (filter_by e) row = elim (value_of fields e row) [ Some c ↦ Ok (if is_true c then row ∷ [] else []) | None ↦ Err 0 ]
rows_after fields (with_columns items) row = result_map_both (λ values. with_values fields items values row ∷ []) (λ i. i) (item_values fields items row)
rows_after fields (select items) row = result_map_both (λ values. values ∷ []) (λ i. i) (item_values fields items row)

-- the columns after a step that is not refused
abbrev pub fields_after : Fields → Step → Fields
fields_after fields step = result_unwrap_or (step_schema fields step) fields

abbrev pub fields_after_all : Fields → List Step → Fields
fields_after_all fields [] = fields
fields_after_all fields (s ∷ steps) = fields_after_all (fields_after fields s) steps

-- the columns after each of the steps
abbrev pub fields_after_each : Fields → List Step → List Fields
fields_after_each fields [] = []
fields_after_each fields (s ∷ steps) = fields_after fields s ∷ fields_after_each (fields_after fields s) steps

-- below, `overflow n i` is the fault of item i of step n
module _ {F : Type 0} (overflow : ℕ → ℕ → F) where
  -- each row in turn; the first row where an item faults ends the stream
  abbrev pub apply_step : ℕ → Fields → Step → Stream F → Stream F
  apply_step n fields step u = step_on (one_by_one (rows_after fields step)) (overflow n) u

  -- the steps one after the other, numbered from n, each on the whole stream that the step before gave
  abbrev pub apply_steps : ℕ → Fields → List Step → Stream F → Stream F
  apply_steps n fields [] u = u
  apply_steps n fields (s ∷ steps) u = apply_steps (n + 1) (fields_after fields s) steps (apply_step n fields s u)
