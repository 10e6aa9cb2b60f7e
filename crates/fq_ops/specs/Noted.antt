-- The notations after a join, a grouping or a rolling sum, under the names of its columns, by those before it; or why there are none.
use Rattle.std.specs.Prelude.{◌+◌, ◌++◌, true, false, ℕ, List, [], ◌∷◌, map, Option, Some, None, Result, Ok, Err, slice_index_or, if◌then◌else◌}
use Rattle.std.specs.Result.{result_map_both}
use Rattle.fq_column.specs.Frame.{Fields, Name, has_name}
use Rattle.fq_notation.specs.Notation.{Named, notation_in, notation_named}
use Rattle.fq_notation.specs.Naming.{before_all, column_followed, column_noted, count_noted, notation_at, noted_before, renamed_noted, same_notation}
use Rattle.fq_notation.specs.declared.naming.Said.{Said}
use Rattle.fq_notation.specs.declared.naming.Said.TheVariants.{Nothing}
use Rattle.fq_notation.specs.declared.naming.StepUnnoted.{StepUnnoted}
use Rattle.fq_notation.specs.declared.naming.StepUnnoted.TheVariants.{Item, Step}
use Rattle.fq_notation.specs.declared.naming.Unnoted.{Unnoted}
use Rattle.fq_notation.specs.declared.naming.Unnoted.TheVariants.{Differ}
use Rattle.fq_notation.specs.declared.notations.Notation.{Notation}
use Rattle.fq_ops.specs.declared.aggregates.Function.{Function}
use Rattle.fq_ops.specs.declared.aggregates.Function.TheVariants.{Sum, Min, Max, Count, Len, First, Last, NUnique}
use Rattle.fq_ops.specs.declared.joins.How.{How}
use Rattle.fq_ops.specs.Aggregate.{Aggregate, len, over, Output}
use Rattle.fq_ops.specs.Join.{right_name, taken}

-- below, the left columns of a join, and the notations on the right
module _ (fields : Fields) (right_named : List Named) where
  -- of right columns, numbered from n, under their names after the join; `said` is what these say
  abbrev pub right_noted : List Said → List Name → ℕ → Fields → Result (List Named) StepUnnoted
  right_noted said on n [] = Ok []
  right_noted said on n (f ∷ fs) =
      if has_name on f.0 then right_noted said on (n + 1) fs
      else noted_before (right_name fields f.0) Step (renamed_noted (slice_index_or said n Nothing) (notation_in right_named f)) (right_noted said on (n + 1) fs)

-- the keys of a grouping
abbrev pub keys_noted : List Named → List Name → List Named
keys_noted named keys = map (λ key. (key, notation_named named key)) keys

-- below, the columns before the step, and their notations
module _ (fields : Fields) (named : List Named) where
  -- of a function's values over a column
  abbrev pub function_noted : Said → Function → Name → Result Notation Unnoted
  function_noted said Sum name = column_noted true said (column_followed fields named name)
  function_noted said Min name = column_noted false said (column_followed fields named name)
  function_noted said Max name = column_noted false said (column_followed fields named name)
  function_noted said First name = column_noted false said (column_followed fields named name)
  function_noted said Last name = column_noted false said (column_followed fields named name)
  function_noted said Count name = count_noted said
  function_noted said Len name = count_noted said
  function_noted said NUnique name = count_noted said

  abbrev pub aggregate_noted : Said → Aggregate → Result Notation Unnoted
  aggregate_noted said len = count_noted said
  aggregate_noted said (over f name) = function_noted said f name

  -- of aggregates, numbered from n; `said` is what their names say
  abbrev pub aggregates_noted : List Said → ℕ → List Output → Result (List Named) StepUnnoted
  aggregates_noted said n [] = Ok []
  aggregates_noted said n (o ∷ outputs) = noted_before o.0 (Item n) (aggregate_noted (slice_index_or said n Nothing) o.1) (aggregates_noted said (n + 1) outputs)

  -- after a grouping
  abbrev pub group_noted : List Said → List Name → List Output → Result (List Named) StepUnnoted
  group_noted said keys outputs = before_all (keys_noted named keys) (aggregates_noted said 0 outputs)

  -- after a rolling sum under a name
  abbrev pub roll_noted : Said → Name → Name → Result (List Named) StepUnnoted
  roll_noted said column name = noted_before name Step (column_noted true said (column_followed fields named column)) (Ok named)

  -- below, the right columns of a join, and their notations
  module _ (right : Fields) (right_named : List Named) where
    -- the first key, numbered from n, whose notation is another on the right
    abbrev pub keys_differ : ℕ → List Name → Option StepUnnoted
    keys_differ n [] = None
    keys_differ n (key ∷ on) = if same_notation (notation_at fields named key) (notation_at right right_named key) then keys_differ (n + 1) on else Some (Item n Differ)

    -- after a join
    abbrev pub join_noted : List Said → How → List Name → Result (List Named) StepUnnoted
    join_noted said how on = elim (keys_differ 0 on)
        [ Some why ↦ Err why | None ↦ result_map_both (λ made. made ++ named) (λ why. why) (right_noted fields right_named said on 0 (taken how right)) ]
