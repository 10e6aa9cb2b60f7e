-- The transforms that stages are.
use Rattle.std.specs.Prelude.{ℕ, Bool, false, ◌==◌, List, [], ◌∷◌, Option, None, map, string_bytes, slice_get, slice_index_or}
use Rattle.fq_column.specs.Frame.{Fields, Frame}
use Rattle.fq_ops.specs.AggregateData.{outputs_of}
use Rattle.fq_run.specs.Transforms.{Transform, group_transform, join_transform, roll_transform, steps_transform}
use Rattle.fq_run.specs.declared.operators.Operator.{Operator}
use Rattle.fq_run.specs.declared.operators.Operator.TheVariants.{Rows, Join, GroupBy, RollingSum}
use Rattle.fq_run.specs.declared.stages.Stage.{Stage}

-- no columns and no rows
abbrev pub nothing : Frame
nothing = record { fields = []; rows = [] }

-- whether an operator is a join with a source
abbrev pub joins_source : ℕ → Operator → Bool
joins_source source (Join j) = j.source == source
joins_source source _ = false

module _ (sides : List Frame) where
  -- an operator whose first step is step n, on rows with these columns
  abbrev pub transform_of : ℕ → Fields → Operator → Transform
  transform_of n fields (Rows front) = steps_transform front
  transform_of n fields (Join j) = let right = slice_index_or sides j.source nothing in
      join_transform n j.how (record { fields = right.fields; rows = right.rows; on = map string_bytes j.on.items; nulls_equal = j.nulls_equal }) fields
  transform_of n fields (GroupBy g) = group_transform n fields (map string_bytes g.keys.items) (outputs_of g.aggs.items)
  transform_of n fields (RollingSum r) = roll_transform n fields (string_bytes r.column) r.window r.min_samples (string_bytes r.name)

  -- the right rows of an operator, if it is a join with a source that is there
  abbrev pub right_of : Operator → Option Frame
  right_of (Join j) = slice_get sides j.source
  right_of _ = None

  abbrev pub rights_of : List Stage → List (Option Frame)
  rights_of stages = map (λ s. right_of s.operator) stages

  abbrev pub transforms_of : Fields → List Stage → List Transform
  transforms_of fields [] = []
  transforms_of fields (s ∷ stages) = transform_of s.number fields s.operator ∷ transforms_of (transform_of s.number fields s.operator).gives stages
