-- What the tail of a run stands for: sources as far as their items came, of which the last is the main one.
use Rattle.std.specs.Prelude.{◌≡◌, ◌<◌, ◌≤◌, ◌⊎◌, ℕ, List, [], map, None, Some, Result, Ok, Err}
use Rattle.fq_column.specs.Frame.{Fields, Frame, Row}
use Rattle.fq_column.specs.Stream.{Stream, done, then_stream}
use Rattle.fq_run.specs.Gathering.{gathered, gathered_stream, taken_in, with_stream}
use Rattle.fq_run.specs.Later.{later_steps}
use Rattle.fq_run.specs.Outcome.{outcome_of_stages}
use Rattle.fq_run.specs.Pipelines.{HasRun}
use Rattle.fq_run.specs.Sources.{first_fault}
use Rattle.fq_run.specs.Stages.{Fit}
use Rattle.fq_run.specs.declared.faults.Fault.{Fault}
use Rattle.fq_run.specs.declared.faults.Fault.TheVariants.{Memory}
use Rattle.fq_run.specs.declared.gathering.SideSource.{SideSource}
use Rattle.fq_run.specs.declared.operators.RunningOperator.{RunningOperator}
use Rattle.fq_run.specs.TailState.{TailState}
use Rattle.fq_run.specs.declared.stages.Stage.{Stage}
use Rattle.fq_run.specs.declared.leading_steps.Worked.{Worked}

-- the stages take the main source's columns to some columns
abbrev pub FitOver : List Stage → Fields → List SideSource → SideSource → Type 0
FitOver stages after sides main = Fit (map (λ g. g.batch.fields) sides) main.batch.fields stages after

-- all ends in this fault, whatever still comes of the main source
abbrev pub IsSettled : List Stage → List SideSource → SideSource → Fault → Type 0
IsSettled stages sides main f = (rest : Stream Fault) → outcome_of_stages stages sides (with_stream main (then_stream (gathered_stream main) rest)) ≡ Err f

-- below, `has` says which rows a sink has taken, of which columns
module _ {S : Type 0} (has : S → Fields → List Row → Type 0) where
  -- what an outcome comes to: a sink that has taken its frame, its fault, or `Memory`
  abbrev pub Ends : Result Frame Fault → Result S Fault → Type 0
  Ends outcome (Ok sink) = (frame : Frame) × ((outcome ≡ Ok frame) × has sink frame.fields frame.rows)
  Ends outcome (Err f) = (f ≡ Memory) ⊎ (outcome ≡ Err f)

  module _ (stages : List Stage) (after : Fields) (sides : List SideSource) (main : SideSource) where
    -- the sources before the main one are these, whose rows may still come, and the main one has none
    pub record IsWaiting (t : TailState S) : Type 0 where
      pub sources : t.sides ≡ sides
      pub before : t.before ≡ main.batch.fields
      pub steps : t.stages ≡ stages
      pub nothing : gathered_stream main ≡ done []
      pub fresh : has t.sink after []

    -- the stages have run over the main source's rows
    pub record IsStreaming (running : List RunningOperator) (t : TailState S) : Type 0 where
      pub none : first_fault (map gathered_stream sides) ≡ None
      pub faultless : main.fault ≡ None
      pub before : t.before ≡ main.batch.fields
      pub out : List Row
      pub run : HasRun running (later_steps stages sides main.batch.fields after) main.batch.rows out
      pub taken : has t.sink after out

    pub record Stands (t : TailState S) : Type 0 where
      pub settled : (f : Fault) → t.fault ≡ Some f → IsSettled stages sides main f
      pub waiting : t.fault ≡ None → t.operators ≡ None → IsWaiting t
      pub streaming : (running : List RunningOperator) → t.operators ≡ Some running → IsStreaming running t

    -- nothing of the main source has come
    pub record Waits (t : TailState S) : Type 0 where
      pub going : t.fault ≡ None
      pub closed : t.operators ≡ None
      pub is : IsWaiting t

  -- an item of a source before the main one, which are the first files, is taken while nothing of the main source has come, or one of the main source
  pub record TailTakes (old : TailState S) (file : ℕ) (out : Worked) (new : TailState S) : Type 0 where
    pub same : new.side_files ≡ old.side_files
    pub before_main : file < old.side_files → (stages : List Stage) (after : Fields) (sides : List SideSource) (main : SideSource) → Waits stages after sides main old →
        Waits stages after (taken_in file out sides) main new
    pub on_main : old.side_files ≤ file → (stages : List Stage) (after : Fields) (sides : List SideSource) (main : SideSource) → FitOver stages after sides main → Stands stages after sides main old →
        Stands stages after sides (gathered main out) new
