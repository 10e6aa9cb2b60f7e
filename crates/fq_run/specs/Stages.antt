-- What a physical plan of the program holds: sources that are read, leading row-wise steps, and the stages after them.
use Rattle.std.specs.Prelude.{◌≡◌, ◌≤◌, ℕ, pos, List, [], ◌∷◌, map, length, slice_get, string_bytes, Option, Some, None, Result, Ok, Err}
use Rattle.fq_column.specs.Frame.{Fields, Name}
use Rattle.fq_column.specs.declared.faults.StepFault.{StepFault}
use Rattle.fq_column.specs.declared.faults.StepFault.TheVariants.{NoSuchSource}
use Rattle.fq_expr.specs.Front.{NumberedSteps}
use Rattle.fq_expr.specs.Kinds.{steps_schema}
use Rattle.fq_notation.specs.declared.notations.Notation.{Notation}
use Rattle.fq_ops.specs.AggregateData.{outputs_of}
use Rattle.fq_ops.specs.Group.{group_schema}
use Rattle.fq_ops.specs.Join.{join_schema}
use Rattle.fq_ops.specs.Roll.{roll_schema}
use Rattle.fq_ops.specs.declared.joins.How.{How}
use Rattle.fq_run.specs.Physical.{Physical, files_wanted, front_fields, side_fields, main_fields}
use Rattle.fq_csv.specs.Sources.{source_of_files}
use Rattle.fq_csv.specs.declared.sources.TheConstants.{MAX_FILES}
use Rattle.fq_csv.specs.declared.sources.SourceFiles.{SourceFiles}
use Rattle.fq_run.specs.declared.operators.Operator.{Operator}
use Rattle.fq_run.specs.declared.operators.Operator.TheVariants.{Rows, Join, GroupBy, RollingSum}
use Rattle.fq_run.specs.declared.stages.Stage.{Stage}

-- the physical plan that sources, leading row-wise steps, stages and the notations of the frame's columns are
abbrev pub physical_of : List SourceFiles → NumberedSteps → List Stage → List Notation → Physical
physical_of sources front stages notations = record { sources = map source_of_files sources; front = front.steps; stages = stages; notations = notations }

-- the columns after a join with a source of these columns, if it is there
abbrev pub schema_with : How → Fields → List Name → Option Fields → Result Fields StepFault
schema_with how fields on o = elim o [ None ↦ Err NoSuchSource | Some right ↦ join_schema how fields right on ]

-- below, `sides` are the columns of the sources before the last
module _ (sides : List Fields) where
  -- an operator takes rows with these columns to rows with those
  abbrev pub Accepts : Fields → Operator → Fields → Type 0
  Accepts fields (Rows front) after = (front.fields ≡ fields) × (steps_schema fields front.steps ≡ Ok after)
  Accepts fields (Join j) after = schema_with j.how fields (map string_bytes j.on.items) (slice_get sides j.source) ≡ Ok after
  Accepts fields (GroupBy g) after = group_schema fields (map string_bytes g.keys.items) (outputs_of g.aggs.items) ≡ Ok after
  Accepts fields (RollingSum r) after = roll_schema fields (string_bytes r.column) (pos r.window) (pos r.min_samples) (string_bytes r.name) ≡ Ok after

  -- so do stages, one after the other, each of which has the columns that it leaves
  abbrev pub Fit : Fields → List Stage → Fields → Type 0
  Fit fields [] after = fields ≡ after
  Fit fields (s ∷ stages) after = Accepts fields s.operator s.after × Fit s.after stages after

-- a physical plan that can run, whatever its notations: few files, leading steps on the main source's columns that are numbered from 0, and
-- stages that fit
pub record IsRunnable (sources : List SourceFiles) (front : NumberedSteps) (stages : List Stage) (inputs : ℕ) : Type 0 where
  pub some_source : 1 ≤ length sources
  pub inputs_wanted : inputs ≡ files_wanted (physical_of sources front stages [])
  pub few_files : files_wanted (physical_of sources front stages []) ≤ MAX_FILES
  pub from_first : front.first ≡ 0
  pub on_main : front.fields ≡ main_fields (physical_of sources front stages [])
  pub fits : (after : Fields) × Fit (side_fields (physical_of sources front stages [])) (front_fields (physical_of sources front stages [])) stages after
