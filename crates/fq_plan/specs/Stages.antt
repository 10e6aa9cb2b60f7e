-- What a checked plan holds: a physical plan that does its steps.
use Rattle.std.specs.Prelude.{◌≡◌, ℕ, ◌+◌, ◌-◌, pos, Bool, List, [], ◌∷◌, ◌++◌, map, flat_map, length, drop, string_bytes, None, Ok}
use Rattle.fq_column.specs.Frame.{Fields}
use Rattle.fq_column.specs.declared.faults.StepFault.TheVariants.{Memory}
use Rattle.fq_expr.specs.Front.{NumberedSteps}
use Rattle.fq_expr.specs.Kinds.{steps_schema}
use Rattle.fq_expr.specs.Steps.{fields_after_each}
use Rattle.fq_ops.specs.AggregateData.{outputs_of}
use Rattle.fq_language.specs.Judged.{judged_step, source_refusal, IsPlaceOf}
use Rattle.fq_language.specs.Plan.{PlanStep, row_wise, join, group_by, rolling_sum, PlanData, IsWithinLimits}
use Rattle.fq_language.specs.declared.faults.CheckFault.{CheckFault}
use Rattle.fq_plan.specs.declared.checks.steps.PassedSteps.{PassedSteps}
use Rattle.fq_plan.specs.Needed.{needed_columns}
use Rattle.fq_csv.specs.Sources.{Source, but_last, last_or}
use Rattle.fq_run.specs.Physical.{Physical, side_fields, main_fields}
use Rattle.fq_csv.specs.declared.sources.SourceFiles.{SourceFiles}
use Rattle.fq_run.specs.declared.operators.Operator.{Operator}
use Rattle.fq_run.specs.declared.operators.Operator.TheVariants.{Rows, Join, GroupBy, RollingSum}
use Rattle.fq_run.specs.declared.operators.grouping.GroupBy.{GroupBy as GroupForm}
use Rattle.fq_run.specs.declared.operators.joining.Join.{Join as JoinForm}
use Rattle.fq_run.specs.declared.operators.rolling.RollingSum.{RollingSum as RollingForm}
use Rattle.fq_run.specs.declared.stages.Stage.{Stage}

abbrev pub columns_of : List SourceFiles → List Fields
columns_of sources = map (λ s. s.layout.schema) sources

-- the step that a join, a grouping or a rolling sum does
abbrev pub join_step : JoinForm → PlanStep
join_step j = join (pos j.source) (map string_bytes j.on.items) j.how j.nulls_equal

abbrev pub group_step : GroupForm → PlanStep
group_step g = group_by (map string_bytes g.keys.items) (outputs_of g.aggs.items)

abbrev pub rolling_step : RollingForm → PlanStep
rolling_step r = rolling_sum (string_bytes r.column) (pos r.window) (pos r.min_samples) (string_bytes r.name)

-- the steps that an operator does, and the columns after each of them, if it leaves these
abbrev pub operator_steps : Operator → List PlanStep
operator_steps (Rows front) = map row_wise front.steps
operator_steps (Join j) = join_step j ∷ []
operator_steps (GroupBy g) = group_step g ∷ []
operator_steps (RollingSum r) = rolling_step r ∷ []

abbrev pub operator_schemas : Operator → Fields → List Fields
operator_schemas (Rows front) after = fields_after_each front.fields front.steps
operator_schemas (Join j) after = after ∷ []
operator_schemas (GroupBy g) after = after ∷ []
operator_schemas (RollingSum r) after = after ∷ []

-- those of stages
abbrev pub stage_steps : List Stage → List PlanStep
stage_steps stages = flat_map (λ s. operator_steps s.operator) stages

abbrev pub stage_schemas : List Stage → List Fields
stage_schemas stages = flat_map (λ s. operator_schemas s.operator s.after) stages

-- a plan over the sources as a physical plan reads them
abbrev pub plan_of : Physical → PlanData
plan_of p = record { sources = p.sources; steps = map row_wise p.front ++ stage_steps p.stages; notations = p.notations }

-- a source of which each column is kept, and a plan of such sources
abbrev pub whole_source : Source → Source
whole_source s = record s { projection = [] }

abbrev pub whole_plan : PlanData → PlanData
whole_plan p = record { sources = map whole_source p.sources; steps = p.steps; notations = p.notations }

-- the plan that a physical plan does
abbrev pub query_of : Physical → PlanData
query_of p = whole_plan (plan_of p)

-- a source of which the marked columns are kept
abbrev pub keeping : List Bool → Source → Source
keeping marks s = record s { projection = marks }

-- sources of which the last keeps the marked columns alone
abbrev pub narrowed : List Bool → List Source → List Source
narrowed marks sources = but_last sources ++ map (keeping marks) (drop (length sources - 1) sources)

-- row-wise steps that leave these columns, as a stage
abbrev pub leading_stage : NumberedSteps → Fields → Stage
leading_stage front after = record { number = front.first; operator = Rows front; after = after }

-- the leading row-wise steps as a stage, and the stages after them
abbrev pub stages_of : PassedSteps → List Stage
stages_of p = leading_stage p.leading p.after_leading ∷ p.stages.items

-- the columns after steps
abbrev pub columns_after : PassedSteps → Fields
columns_after p = last_or p.after_leading (map (λ s. s.after) p.stages.items)

-- below, `sides` are the columns of the sources before the last
module _ (sides : List Fields) where
  -- an operator whose first step is step n takes rows with these columns to rows with those
  abbrev pub LowersTo : ℕ → Fields → Operator → Fields → Type 0
  LowersTo n fields (Rows front) after = (front.fields ≡ fields) × (front.first ≡ n) × (steps_schema fields front.steps ≡ Ok after)
  LowersTo n fields (Join j) after = judged_step sides fields (join (pos j.source) (map string_bytes j.on.items) j.how j.nulls_equal) ≡ Ok after
  LowersTo n fields (GroupBy g) after = judged_step sides fields (group_by (map string_bytes g.keys.items) (outputs_of g.aggs.items)) ≡ Ok after
  LowersTo n fields (RollingSum r) after = judged_step sides fields (rolling_sum (string_bytes r.column) (pos r.window) (pos r.min_samples) (string_bytes r.name)) ≡ Ok after

  -- so do stages, one after the other, each with the number of its first step and the columns that it leaves
  abbrev pub Leads : ℕ → Fields → List Stage → Fields → Type 0
  Leads n fields [] after = fields ≡ after
  Leads n fields (s ∷ stages) after =
      (s.number ≡ n) × LowersTo n fields s.operator s.after × Leads (n + length (operator_steps s.operator)) s.after stages after

-- memory ran out at a place of a plan with so many sources and steps
abbrev pub IsMemoryAt : ℕ → ℕ → CheckFault → Type 0
IsMemoryAt sources steps e = (e.code ≡ Memory) × IsPlaceOf sources steps e.place

-- the plan is not refused, its main source keeps the columns that it needs alone, and each operator has the number and the columns of its
-- steps
pub record IsChecked (p : Physical) : Type 0 where
  pub limits : IsWithinLimits (query_of p)
  pub sources : p.sources ≡ narrowed (needed_columns (query_of p)) (query_of p).sources
  pub schemas : source_refusal 0 p.sources ≡ None
  pub leads : (mid after : Fields) × (steps_schema (main_fields p) p.front ≡ Ok mid) × Leads (side_fields p) (length p.front) mid p.stages after
