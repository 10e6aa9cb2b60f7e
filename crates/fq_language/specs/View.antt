-- The data that a plan of the program is.
use Rattle.std.specs.Prelude.{[], map, string_bytes, String}
use Rattle.std.specs.Global.{Global}
use Rattle.fq_column.specs.declared.cells.Kind.{Kind}
use Rattle.fq_column.specs.Frame.{Field}
use Rattle.fq_expr.specs.ExpressionData.{step_of}
use Rattle.fq_ops.specs.AggregateData.{outputs_of}
use Rattle.fq_language.specs.Plan.{PlanStep, row_wise, join, group_by, rolling_sum}
use Rattle.fq_csv.specs.Sources.{Source as SourceData}
use Rattle.fq_language.specs.declared.plans.Source.{Source}
use Rattle.fq_language.specs.declared.plans.Step.{Step}
use Rattle.fq_language.specs.declared.plans.Step.TheVariants.{Rows, Join, GroupBy, RollingSum}

-- a column that a plan declares
abbrev pub field_of : String Global × Kind → Field
field_of c = (string_bytes c.0, c.1)

abbrev pub source_data : Source → SourceData
source_data s = record { files = s.files; fields = map field_of s.columns.items; nulls = s.nulls; notations = []; projection = [] }

abbrev pub plan_step_of : Step → PlanStep
plan_step_of (Rows s) = row_wise (step_of s)
plan_step_of (Join source on how nulls_equal) = join source (map string_bytes on.items) how nulls_equal
plan_step_of (GroupBy keys aggs) = group_by (map string_bytes keys.items) (outputs_of aggs.items)
plan_step_of (RollingSum column window min_samples name) = rolling_sum (string_bytes column) window min_samples (string_bytes name)
