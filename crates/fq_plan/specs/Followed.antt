-- The notations of the columns of a plan, before each step and after the last, by those that names declare; or why there are none.
use Rattle.std.specs.Prelude.{ℕ, zero, suc, ◌+◌, ◌&&◌, Bool, false, not, List, [], ◌∷◌, map, drop, length, zip, slice_get, slice_index_or, Option, Some, None, Result, Ok, Err, if◌then◌else◌}
use Rattle.std.specs.List.{list_any}
use Rattle.fq_column.specs.declared.cells.Kind.TheVariants.{Whole, Text, Truth}
use Rattle.fq_column.specs.Frame.{Field, Fields, Name, same_name}
use Rattle.fq_csv.specs.Sources.{Source}
use Rattle.fq_expr.specs.Expression.{Item, Step, filter_by, with_columns, select}
use Rattle.fq_expr.specs.Naming.{is_itself, step_noted}
use Rattle.fq_language.specs.Judged.{judged}
use Rattle.fq_language.specs.Plan.{PlanStep, row_wise, join, group_by, rolling_sum, PlanData, item_at, side_fields}
use Rattle.fq_notation.specs.Notation.{Named, notation_given}
use Rattle.fq_notation.specs.declared.naming.Said.{Said}
use Rattle.fq_notation.specs.declared.naming.Said.TheVariants.{Nothing, Digits, InFiles, Declared, MadeAgain}
use Rattle.fq_notation.specs.declared.naming.StepUnnoted.{StepUnnoted}
use Rattle.fq_notation.specs.declared.naming.StepUnnoted.TheVariants as unnoted
use Rattle.fq_notation.specs.declared.notations.Notation.{Notation}
use Rattle.fq_ops.specs.Join.{right_name}
use Rattle.fq_ops.specs.Noted.{group_noted, join_noted, roll_noted}
use Rattle.fq_plan.specs.declared.noted.NotationFault.{NotationFault}
use Rattle.fq_plan.specs.declared.noted.NotationFault.TheVariants as fault
use Rattle.fq_run.specs.Noted.{has_ints, reads_ints}

-- the items of a row-wise step
abbrev pub row_items : Step → List Item
row_items (filter_by e) = []
row_items (with_columns items) = items
row_items (select items) = items

-- whether a step computes a column of this name; a column under its own name is not computed
abbrev pub computes : Name → PlanStep → Bool
computes name (row_wise s) = list_any (λ i. same_name name i.0 && not (is_itself name i.1)) (row_items s)
computes name (join source on how nulls_equal) = false
computes name (group_by keys outputs) = list_any (λ o. same_name name o.0) outputs
computes name (rolling_sum column window min_samples n) = same_name name n

-- whether a step that leaves these columns computes ints of this name
abbrev pub computes_ints : Name → PlanStep × Fields → Bool
computes_ints name (s, after) = computes name s && has_ints after name

-- below, the sources, the notations that names declare, and the steps after one, each with the columns that it leaves
module _ (sources : List Source) (declared : List Named) (later : List (PlanStep × Fields)) where
  -- what a declared name says to a step
  abbrev pub said_of_declared : Name → Notation → Said
  said_of_declared name n = if reads_ints sources name then InFiles n else if list_any (computes_ints name) later then MadeAgain n else Declared n

  -- what a name says to it, by what it declares, if it does
  abbrev pub said_by : Name → Option Notation → Said
  said_by name given = elim given [ Some n ↦ said_of_declared name n | None ↦ if reads_ints sources name then Digits else Nothing ]

  abbrev pub said_of : Name → Said
  said_of name = said_by name (notation_given declared name)

  -- what the name of a right column of a join says, if it is of ints
  abbrev pub said_of_right : Fields → Field → Said
  said_of_right fields (name, Whole) = said_of (right_name fields name)
  said_of_right fields (name, Text) = Nothing
  said_of_right fields (name, Truth) = Nothing

  -- the notations after a step on columns, by those before it
  module _ (sides : List Fields) (fields : Fields) (named : List Named) where
    abbrev pub step_followed : PlanStep → Result (List Named) StepUnnoted
    step_followed (row_wise s) = step_noted fields named (map (λ i. said_of i.0) (row_items s)) s
    step_followed (join source on how nulls_equal) = elim (item_at sides source)
        [ None ↦ Ok named | Some right ↦ join_noted fields named right declared (map (said_of_right fields) right) how on ]
    step_followed (group_by keys outputs) = group_noted fields named (map (λ o. said_of o.0) outputs) keys outputs
    step_followed (rolling_sum column window min_samples name) = roll_noted fields named (said_of name) column name

-- why step n leaves columns without notations
abbrev pub unnoted_at : ℕ → StepUnnoted → NotationFault
unnoted_at n (unnoted.Step why) = fault.Step n why
unnoted_at n (unnoted.Item i why) = fault.Item n i why
unnoted_at n unnoted.Memory = fault.Memory

-- the columns before each step of a plan that is not refused, and after the last
abbrev pub schemas_of : PlanData → List Fields
schemas_of p = elim (judged p) [ Err refusal ↦ [] | Ok schemas ↦ schemas ]

-- below, the notations that names declare, and a plan that is not refused
module _ (declared : List Named) (p : PlanData) where
  -- the steps after step n, each with the columns that it leaves
  abbrev pub steps_after : ℕ → List (PlanStep × Fields)
  steps_after n = zip (drop (n + 1) p.steps) (drop (n + 2) (schemas_of p))

  -- the notations after step n, by those before it
  abbrev pub followed_by : ℕ → List Named → Result (List Named) StepUnnoted
  followed_by n named = elim (slice_get p.steps n)
      [ None ↦ Ok named | Some s ↦ step_followed p.sources declared (steps_after n) (side_fields p) (slice_index_or (schemas_of p) n []) named s ]

  abbrev pub and_followed : ℕ → Result (List Named) NotationFault → Result (List Named) NotationFault
  and_followed n (Err f) = Err f
  and_followed n (Ok named) = elim (followed_by n named) [ Err why ↦ Err (unnoted_at n why) | Ok after ↦ Ok after ]

  -- the notations before step n
  abbrev pub notations_before : ℕ → Result (List Named) NotationFault
  notations_before zero = Ok declared
  notations_before (suc n) = and_followed n (notations_before n)

-- those of the frame; without names nothing is judged, and all is digits
abbrev pub followed : List Named → PlanData → Result (List Named) NotationFault
followed [] p = Ok []
followed (entry ∷ named) p = notations_before (entry ∷ named) p (length p.steps)
