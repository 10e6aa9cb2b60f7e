-- The check of a plan: the schemas that its steps leave, or the first refusal and its place. Sources are judged in order, then steps in order.
use Rattle.std.specs.Prelude.{ℕ, ◌+◌, ◌<◌, List, [], ◌∷◌, Option, Some, None, Result, Ok, Err}
use Rattle.std.specs.Result.{result_map_both}
use Rattle.fq_column.specs.declared.faults.StepFault.{StepFault}
use Rattle.fq_column.specs.declared.faults.StepFault.TheVariants.{NoSuchSource}
use Rattle.fq_column.specs.Frame.{Fields, names_of}
use Rattle.fq_column.specs.Refusal.{first_refusal}
use Rattle.fq_column.specs.Schema.{schema_checks}
use Rattle.fq_expr.specs.Kinds.{step_schema}
use Rattle.fq_ops.specs.Join.{join_schema}
use Rattle.fq_ops.specs.Group.{group_schema}
use Rattle.fq_ops.specs.Roll.{roll_schema}
use Rattle.fq_language.specs.Plan.{PlanStep, row_wise, join, group_by, rolling_sum, PlanData, item_at, side_fields, main_fields}
use Rattle.fq_csv.specs.Sources.{Source}
use Rattle.fq_language.specs.declared.faults.CheckFault.{CheckFault}
use Rattle.fq_language.specs.declared.faults.Place.{Place}
use Rattle.fq_language.specs.declared.faults.Place.TheVariants as place

abbrev pub refused_at : Place → StepFault → CheckFault
refused_at where_it_is code = record { place = where_it_is; code = code }

-- a place of a plan with so many sources and steps
abbrev pub IsPlaceOf : ℕ → ℕ → Place → Type 0
IsPlaceOf sources steps (place.Source n) = n < sources
IsPlaceOf sources steps (place.Step n) = n < steps

-- the first source, numbered from n, whose columns make no schema
abbrev pub source_refusal : ℕ → List Source → Option CheckFault
source_refusal n [] = None
source_refusal n (s ∷ sources) = elim (first_refusal (schema_checks (names_of s.fields))) [ Some code ↦ Some (refused_at (place.Source n) code) | None ↦ source_refusal (n + 1) sources ]

-- below, `sides` are the columns of the sources before the last
module _ (sides : List Fields) where
  -- the schema after a step, or the step's first refusal
  abbrev pub judged_step : Fields → PlanStep → Result Fields StepFault
  judged_step fields (row_wise s) = step_schema fields s
  judged_step fields (join source on how nulls_equal) = elim (item_at sides source) [ None ↦ Err NoSuchSource | Some right ↦ join_schema how fields right on ]
  judged_step fields (group_by keys aggs) = group_schema fields keys aggs
  judged_step fields (rolling_sum column window min_samples name) = roll_schema fields column window min_samples name

  -- the schema before each step, numbered from n, and after the last
  abbrev pub judged_steps : ℕ → Fields → List PlanStep → Result (List Fields) CheckFault
  judged_steps n fields [] = Ok (fields ∷ [])
  judged_steps n fields (s ∷ steps) = elim (judged_step fields s)
      [ Err code ↦ Err (refused_at (place.Step n) code) | Ok after ↦ result_map_both (λ rest. fields ∷ rest) (λ e. e) (judged_steps (n + 1) after steps) ]

-- the schemas of a plan, step by step, or the first refusal
abbrev pub judged : PlanData → Result (List Fields) CheckFault
judged p = elim (source_refusal 0 p.sources) [ Some refusal ↦ Err refusal | None ↦ judged_steps (side_fields p) 0 (main_fields p) p.steps ]

-- the plan, if it is not refused
abbrev pub checked : PlanData → Result PlanData CheckFault
checked p = result_map_both (λ schemas. p) (λ refusal. refusal) (judged p)
