-- Groups in order of first appearance (Polars, `LazyFrame.group_by` with `maintain_order=True`).
use Rattle.std.specs.Prelude.{ℕ, Bool, not, List, [], ◌∷◌, ◌++◌, map, filter, length, nat_lt, ◌==◌, Result, Ok, Err}
use Rattle.std.specs.Result.{result_map_both}
use lib.Pointwise.{pointwise}
use Rattle.fq_column.specs.declared.cells.Kind.{Kind}
use Rattle.fq_column.specs.declared.cells.Kind.TheVariants.{Whole}
use Rattle.fq_column.specs.declared.cells.Cell.{Cell}
use Rattle.fq_column.specs.declared.faults.StepFault.{StepFault}
use Rattle.fq_column.specs.declared.faults.StepFault.TheVariants.{DoubleName, TooMany, NoColumn}
use Rattle.fq_column.specs.declared.schemas.TheConstants.{MAX_COLUMNS}
use Rattle.fq_column.specs.Cell.{same_cell}
use Rattle.fq_column.specs.Frame.{Fields, Name, Row, same_name, value_named}
use Rattle.fq_column.specs.Lists.{is_distinct, all_or_missing}
use Rattle.fq_column.specs.Refusal.{refuse_if, unless_refused, and_then}
use Rattle.fq_column.specs.Schema.{kind_named}
use Rattle.fq_column.specs.Stream.{Stream, whole_on}
use Rattle.fq_ops.specs.Fields.{Judged, refusals, settled}
use Rattle.fq_ops.specs.Aggregate.{Aggregate, len, over, Output, aggregated, first_seen, kind_over}

-- the kind of an aggregate
abbrev pub aggregate_kind : Fields → Aggregate → Result Kind StepFault
aggregate_kind fields len = Ok Whole
aggregate_kind fields (over f n) = and_then (kind_named fields n) (kind_over f)

-- the keys' columns, then the aggregates'
abbrev pub grouped_names : List Name → List Output → List Name
grouped_names keys outputs = keys ++ map (λ o. o.0) outputs

abbrev pub grouped_kinds : Fields → List Name → List Output → List Judged
grouped_kinds fields keys outputs = map (λ n. (n, kind_named fields n)) keys ++ map (λ o. (o.0, aggregate_kind fields o.1)) outputs

abbrev pub grouped_fields : Fields → List Name → List Output → Fields
grouped_fields fields keys outputs = settled (grouped_kinds fields keys outputs)

-- the schema after a grouping, or the first refusal
abbrev pub group_schema : Fields → List Name → List Output → Result Fields StepFault
group_schema fields keys outputs = unless_refused
    (refuse_if (length keys == 0) NoColumn
    ∷ (refusals (grouped_kinds fields keys outputs)
    ++ (refuse_if (nat_lt MAX_COLUMNS (length (grouped_names keys outputs))) TooMany
    ∷ refuse_if (not (is_distinct same_name (grouped_names keys outputs))) DoubleName ∷ [])))
    (grouped_fields fields keys outputs)

-- whether two keys are the same, null and null included
abbrev pub same_key : List Cell → List Cell → Bool
same_key = pointwise same_cell

-- the first refusal among results, or all their values
abbrev pub all_ok : {X E : Type 0} → List (Result X E) → Result (List X) E
all_ok [] = Ok []
all_ok (Err e ∷ rest) = Err e
all_ok (Ok x ∷ rest) = result_map_both (λ xs. x ∷ xs) (λ e. e) (all_ok rest)

module _ (fields : Fields) (keys : List Name) where
  -- a row's values in the key columns
  abbrev pub key_of : Row → List Cell
  key_of row = map (λ n. value_named fields n row) keys

  -- the keys of rows, each where it first appears
  abbrev pub keys_of_rows : List Row → List (List Cell)
  keys_of_rows rows = first_seen same_key (map key_of rows)

  -- the rows of a key
  abbrev pub group_of : List Row → List Cell → List Row
  group_of rows key = filter (λ row. same_key key (key_of row)) rows

  module _ (outputs : List Output) where
    -- a key and the aggregates of its rows, or the lowest aggregate that does not fit
    abbrev pub group_row : List Row → List Cell → Result Row ℕ
    group_row rows key = result_map_both (λ cells. key ++ cells) (λ i. i) (all_or_missing (map (λ o. aggregated fields o.1 (group_of rows key)) outputs))

    -- one row a key, or the aggregate of the first group with a sum that does not fit
    abbrev pub grouped : List Row → Result (List Row) ℕ
    grouped rows = all_ok (map (group_row rows) (keys_of_rows rows))

-- a grouping of a stream, where `out_of_range i` is the fault of aggregate i
abbrev pub group_stream : {F : Type 0} → Fields → List Name → List Output → (ℕ → F) → Stream F → Stream F
group_stream fields keys outputs out_of_range u = whole_on (grouped fields keys outputs) out_of_range u
