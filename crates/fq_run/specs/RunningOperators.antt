-- What running operators have taken and no longer hold.
use Rattle.std.specs.Prelude.{◌≡◌, ◌+◌, ◌-◌, length, map, IsOk, List, [], ◌∷◌, ◌++◌, Option, Some, None, pos}
use Rattle.fq_column.specs.Frame.{Fields, Frame, Name, Row, names_of, position_of, value_named}
use Rattle.fq_column.specs.Stream.{Stream, done, then_stream}
use Rattle.fq_ops.specs.Aggregate.{Output}
use Rattle.fq_ops.specs.Grouped.{Grouped, HasTakenRows}
use Rattle.fq_ops.specs.Join.{join_rows, join_schema}
use Rattle.fq_ops.specs.Probing.{IsProbeOf, rows_left}
use Rattle.fq_ops.specs.declared.probes.Probe.{Probe}
use Rattle.fq_ops.specs.Roll.{roll_schema}
use Rattle.fq_ops.specs.Taken.{HasTakenCells}
use Rattle.fq_run.specs.declared.operators.joining.TheConstants.{MAX_JOINED_ROWS}
use Rattle.fq_run.specs.Transforms.{Transform, IsCausal, steps_transform, join_transform, roll_transform, group_transform}
use Rattle.fq_run.specs.declared.faults.Fault.{Fault}
use Rattle.fq_run.specs.declared.operators.Made.{Made}
use Rattle.fq_run.specs.declared.operators.RunningOperator.{RunningOperator}
use Rattle.fq_run.specs.declared.operators.RunningOperator.TheVariants.{Rows, Join, Roll, Group}
use Rattle.fq_run.specs.declared.operators.joining.Joining.{Joining}
use Rattle.fq_run.specs.declared.operators.rolling.Summing.{Summing}
use Rattle.fq_run.specs.declared.operators.grouping.Grouping.{Grouping}
use Rattle.fq_run.specs.declared.passed.Passed.{Passed}

-- ---- what is passed on

abbrev pub rows_in : Option Frame → List Row
rows_in None = []
rows_in (Some b) = b.rows

abbrev pub passed_stream : Passed → Stream Fault
passed_stream p = record { rows = rows_in p.batch; fault = p.fault }

-- its rows, if there are any, have these columns
abbrev pub IsUnder : Fields → Option Frame → Type 0
IsUnder fields None = Unit {0}
IsUnder fields (Some b) = b.fields ≡ fields

-- ---- one operator

-- a join that runs as this transform has taken these rows: the room that is left is what they left of it
pub record HasJoined (j : Joining) (m : Transform) (rows : List Row) : Type 0 where
  pub transform : m ≡ join_transform j.number j.how j.table m.takes
  pub accepted : IsOk (join_schema j.how m.takes j.table.fields j.table.on)
  pub room : j.room ≡ MAX_JOINED_ROWS - length (m.at_once rows).rows

-- a rolling sum of the column of a name
pub record HasSummed (s : Summing) (m : Transform) (rows : List Row) : Type 0 where
  pub column : Name
  pub place : position_of column (names_of m.takes) ≡ Some s.place
  pub transform : m ≡ roll_transform s.number m.takes column s.rolling.window s.rolling.min_samples s.name.now
  pub accepted : IsOk (roll_schema m.takes column (pos s.rolling.window) (pos s.rolling.min_samples) s.name.now)
  pub cells : HasTakenCells s.rolling (map (value_named m.takes column) rows)

-- a grouping
pub record HasGrouped (g : Grouping) (m : Transform) (rows : List Row) : Type 0 where
  pub keys : List Name
  pub outputs : List Output
  pub grouper : Grouped
  pub is : g.grouper ≡ Some grouper
  pub fields : grouper.fields ≡ m.takes
  pub transform : m ≡ group_transform g.number m.takes keys outputs
  pub rows_taken : HasTakenRows grouper keys outputs rows

abbrev pub Keeps : RunningOperator → Transform → List Row → Type 0
Keeps (Rows front) m rows = m ≡ steps_transform front.now
Keeps (Join j) m rows = HasJoined j m rows
Keeps (Roll s) m rows = HasSummed s m rows
Keeps (Group g) m rows = HasGrouped g m rows

-- an operator that runs as this transform has taken these rows, and none of them was a fault
pub record HasTaken (r : RunningOperator) (m : Transform) (rows : List Row) : Type 0 where
  pub causal : IsCausal m
  pub faultless : (m.at_once rows).fault ≡ None
  pub keeps : Keeps r m rows

-- what an operator passes on of one more batch, where it had taken rows and now has taken the batch's too, unless one faults
pub record IsNext (m : Transform) (rows : List Row) (batch : Frame) (Kept : Transform → List Row → Type 0) (p : Passed) : Type 0 where
  pub columns : IsUnder m.gives p.batch
  pub next : then_stream (m.at_once rows) (passed_stream p) ≡ m.at_once (rows ++ batch.rows)
  pub kept : p.fault ≡ None → Kept m (rows ++ batch.rows)

abbrev pub Takes : (Transform → List Row → Type 0) → (Transform → List Row → Type 0) → Frame → Passed → Type 0
Takes Kept Keeps batch p = (m : Transform) (rows : List Row) → m.takes ≡ batch.fields → (m.at_once rows).fault ≡ None → Kept m rows → IsNext m rows batch Keeps p

-- a join that has taken rows gives, part by part, what it makes of one more batch: it has given these rows of that, and goes on by this probe
pub record IsJoining (joining : Joining) (m : Transform) (rows : List Row) (batch : Frame) (given : List Row) (probe : Probe) : Type 0 where
  pub causal : IsCausal m
  pub faultless : (m.at_once rows).fault ≡ None
  pub fields : m.takes ≡ batch.fields
  pub transform : m ≡ join_transform joining.number joining.how joining.table m.takes
  pub accepted : IsOk (join_schema joining.how m.takes joining.table.fields joining.table.on)
  pub left : (probe.left ≡ batch) × (probe.how ≡ joining.how)
  pub probes : IsProbeOf joining.table probe
  pub room : joining.room ≡ MAX_JOINED_ROWS - (length (m.at_once rows).rows + length given)
  pub rest : join_rows joining.how joining.table.nulls_equal batch.fields joining.table.fields joining.table.on joining.table.rows (MAX_JOINED_ROWS - length (m.at_once rows).rows) batch.rows
      ≡ then_stream (done given) (rows_left joining.table probe)

-- only a join goes on by a probe
abbrev pub IsGiving : RunningOperator → Transform → List Row → Frame → List Row → Probe → Type 0
IsGiving (Rows front) m rows batch given probe = ⊥
IsGiving (Join j) m rows batch given probe = IsJoining j m rows batch given probe
IsGiving (Roll s) m rows batch given probe = ⊥
IsGiving (Group g) m rows batch given probe = ⊥

-- the last of what an operator makes of one more batch, after these rows: it has taken the batch, unless a fault ends all
abbrev pub IsLast : RunningOperator → Transform → List Row → Frame → List Row → Passed → Type 0
IsLast r m rows batch given p = (then_stream (m.at_once rows) (then_stream (done given) (passed_stream p)) ≡ m.at_once (rows ++ batch.rows))
    × (p.fault ≡ None → HasTaken r m (rows ++ batch.rows))

-- a part of what an operator makes of one more batch, after these rows
pub record Makes (r : RunningOperator) (m : Transform) (rows : List Row) (batch : Frame) (given : List Row) (p : Made) : Type 0 where
  pub columns : IsUnder m.gives p.passed.batch
  pub last : p.rest ≡ None → IsLast r m rows batch given p.passed
  pub goes_on : (probe : Probe) → p.rest ≡ Some probe → (p.passed.fault ≡ None) × IsGiving r m rows batch (given ++ rows_in p.passed.batch) probe

-- the last that it makes
pub record HasEnded (m : Transform) (rows : List Row) (p : Passed) : Type 0 where
  pub columns : IsUnder m.gives p.batch
  pub last : then_stream (m.at_once rows) (passed_stream p) ≡ m.in_all rows

-- ---- operators in a row

abbrev pub HaveTaken : List RunningOperator → List Transform → List Row → Type 0
HaveTaken [] [] rows = Unit {0}
HaveTaken [] (m ∷ ms) rows = ⊥
HaveTaken (r ∷ rs) [] rows = ⊥
HaveTaken (r ∷ rs) (m ∷ ms) rows = HasTaken r m rows × HaveTaken rs ms (m.at_once rows).rows
