-- Aggregates of a group (Polars, `Expr.sum`, `min`, `max`, `count`, `len`, `first`, `last`, `n_unique`).
use Rattle.std.specs.Prelude.{◌-◌, Bool, not, List, [], ◌∷◌, map, filter, filter_map, length, fold, ℤ, pos, ◌+ℤ◌, Option, Some, None, unwrap_or, slice_index_or, Result, Ok, if◌then◌else◌}
use Rattle.std.specs.List.{reduce}
use Rattle.std.specs.Ordering.{is_lt, is_gt}
use Rattle.fq_column.specs.declared.cells.Cell.{Cell}
use Rattle.fq_column.specs.declared.cells.Cell.TheVariants.{Null, Whole}
use Rattle.fq_column.specs.declared.cells.Kind.{Kind}
use Rattle.fq_column.specs.declared.cells.Kind.TheVariants as kind
use Rattle.fq_column.specs.declared.faults.StepFault.{StepFault}
use Rattle.fq_column.specs.declared.faults.StepFault.TheVariants.{WrongKind}
use Rattle.fq_column.specs.Cell.{fitted, is_null, cell_cmp, same_cell, same_kind}
use Rattle.fq_column.specs.Frame.{Fields, Name, Row, value_named}
use Rattle.fq_column.specs.Refusal.{refuse_if, unless_refused}
use Rattle.fq_ops.specs.declared.aggregates.Function.{Function}
use Rattle.fq_ops.specs.declared.aggregates.Function.TheVariants as function

-- the number of a group's rows, or a function of their cells in a column
pub data Aggregate : Type 0 where
  len : Aggregate
  over : Function → Name → Aggregate

-- an output's name and its aggregate
abbrev pub Output : Type 0
Output = Name × Aggregate

abbrev pub whole_of : Cell → Option ℤ
whole_of (Whole n) = Some n
whole_of c = None

-- the whole numbers among values
abbrev pub wholes : List Cell → List ℤ
wholes cells = filter_map whole_of cells

abbrev pub int_sum : List ℤ → ℤ
int_sum ns = fold (λ a n. a +ℤ n) (pos 0) ns

abbrev pub values : List Cell → List Cell
values cells = filter (λ c. not (is_null c)) cells

-- the items, each where it first appears
abbrev pub first_seen : {X : Type 0} → (X → X → Bool) → List X → List X
first_seen same [] = []
first_seen same (x ∷ xs) = x ∷ filter (λ y. not (same x y)) (first_seen same xs)

-- the least of the values, the greatest, or null if there is none
abbrev pub least : List Cell → Cell
least cells = unwrap_or (reduce (λ a b. if is_lt (cell_cmp b a) then b else a) (values cells)) Null

abbrev pub greatest : List Cell → Cell
greatest cells = unwrap_or (reduce (λ a b. if is_gt (cell_cmp b a) then b else a) (values cells)) Null

abbrev pub count : {X : Type 0} → List X → Cell
count xs = Whole (pos (length xs))

-- what a function makes of cells, or none if a sum does not fit 64 bits
abbrev pub value_of : Function → List Cell → Option Cell
value_of function.Sum cells = fitted (int_sum (wholes cells))
value_of function.Min cells = Some (least cells)
value_of function.Max cells = Some (greatest cells)
value_of function.Count cells = Some (count (values cells))
value_of function.Len cells = Some (count cells)
value_of function.First cells = Some (slice_index_or cells 0 Null)
value_of function.Last cells = Some (slice_index_or cells (length cells - 1) Null)
value_of function.NUnique cells = Some (count (first_seen same_cell cells))

abbrev pub must_be_whole : Kind → Result Kind StepFault
must_be_whole k = unless_refused (refuse_if (not (same_kind k kind.Whole)) WrongKind ∷ []) kind.Whole

-- the kind of what a function makes of the cells of a column of this kind
abbrev pub kind_over : Function → Kind → Result Kind StepFault
kind_over function.Sum k = must_be_whole k
kind_over function.Min k = Ok k
kind_over function.Max k = Ok k
kind_over function.Count k = Ok kind.Whole
kind_over function.Len k = Ok kind.Whole
kind_over function.First k = Ok k
kind_over function.Last k = Ok k
kind_over function.NUnique k = Ok kind.Whole

-- the aggregate of the rows of a group, or none if a sum does not fit 64 bits
abbrev pub aggregated : Fields → Aggregate → List Row → Option Cell
aggregated fields len rows = Some (count rows)
aggregated fields (over f n) rows = value_of f (map (value_named fields n) rows)
