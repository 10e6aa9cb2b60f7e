-- What stages make of the streams that sources came to: a frame, or one fault.
use Rattle.std.specs.Prelude.{List, [], ◌∷◌, map, Some, None, Result, Ok, Err}
use Rattle.fq_column.specs.Frame.{Fields, Frame}
use Rattle.fq_column.specs.Stream.{Stream}
use Rattle.fq_run.specs.Gathering.{gathered_stream}
use Rattle.fq_run.specs.Sources.{first_fault}
use Rattle.fq_run.specs.Starting.{transforms_of}
use Rattle.fq_run.specs.Transforms.{Transform, whole_all}
use Rattle.fq_run.specs.declared.faults.Fault.{Fault}
use Rattle.fq_run.specs.declared.gathering.SideSource.{SideSource}
use Rattle.fq_run.specs.declared.stages.Stage.{Stage}

-- a stream as a frame of these columns, or its fault
abbrev pub frame_or_fault : Fields → Stream Fault → Result Frame Fault
frame_or_fault fields u = elim u.fault [ None ↦ Ok (record { fields = fields; rows = u.rows }) | Some f ↦ Err f ]

-- the columns after transforms of rows with these columns
abbrev pub columns_after : Fields → List Transform → Fields
columns_after fields [] = fields
columns_after fields (m ∷ ms) = columns_after m.gives ms

-- what stages make of a stream of rows with these columns, where `sides` are the sources before the last
abbrev pub outcome : List Frame → Fields → List Stage → Stream Fault → Result Frame Fault
outcome sides fields stages u = frame_or_fault (columns_after fields (transforms_of sides fields stages)) (whole_all (transforms_of sides fields stages) u)

-- the first fault of the sources before the last, or what the stages make of the last
abbrev pub outcome_of_stages : List Stage → List SideSource → SideSource → Result Frame Fault
outcome_of_stages stages sides main = elim (first_fault (map gathered_stream sides)) [
  | Some f ↦ Err f
  | None ↦ outcome (map (λ g. g.batch) sides) main.batch.fields stages (gathered_stream main)
]
