-- What a run's tail stands for once its engine is done.
use Rattle.std.specs.Prelude.{◌≡◌, ℕ, List, [], ◌∷◌, ◌++◌, Option, IsOk}
use Rattle.fq_column.specs.Frame.{Fields, Row}
use Rattle.fq_run.specs.Kept.{AreSound}
use Rattle.fq_run.specs.Outcome.{outcome_of_stages}
use Rattle.fq_run.specs.Physical.{Physical, file_streams, outcome_of_run}
use Rattle.fq_run.specs.Run.{Tell, trace_of}
use Rattle.fq_run.specs.Standing.{FitOver, Stands}
use Rattle.fq_run.specs.declared.gathering.SideSource.{SideSource}
use Rattle.fq_run.specs.TailState.{TailState}
use Rattle.fq_run.specs.declared.stages.Stage.{Stage}

-- it stands for sources of which the stages make the plan's outcome over the readers' files; the trace lists the files' batches
pub record HasGathered {R S : Type 0} (has : S → Fields → List Row → Type 0) (remaining : R → Option (List ℕ)) (readers : List R) (p : Physical) (batch_size : ℕ) (tail : TailState S) (numbers : List (ℕ × ℕ)) : Type 0 where
  pub stages : List Stage
  pub after : Fields
  pub sides : List SideSource
  pub main : SideSource
  pub fits : FitOver stages after sides main
  pub stands : Stands has stages after sides main tail
  pub sound : AreSound (sides ++ main ∷ [])
  pub outcome : (files : List (List ℕ)) → Tell remaining readers files → outcome_of_stages stages sides main ≡ outcome_of_run p (file_streams p files)
  pub trace : (files : List (List ℕ)) → Tell remaining readers files → IsOk (outcome_of_run p (file_streams p files)) → numbers ≡ trace_of batch_size (file_streams p files)
