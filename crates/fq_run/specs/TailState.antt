-- The tail of a run, and what it always knows of its stages.
use Rattle.std.specs.Prelude.{◌≡◌, ℕ, List, map, None, Some, Option}
use Rattle.fq_column.specs.Frame.{Fields, Row}
use Rattle.fq_run.specs.Pipelines.{HasRun, Transforming}
use Rattle.fq_run.specs.Stages.{Fit}
use Rattle.fq_run.specs.declared.faults.Fault.{Fault}
use Rattle.fq_run.specs.declared.gathering.SideSource.{SideSource}
use Rattle.fq_run.specs.declared.operators.RunningOperator.{RunningOperator}
use Rattle.fq_run.specs.declared.stages.Stage.{Stage}

-- the sources before the main one, of so many files, as far as their items came; the stages, over rows of these columns, and their operators,
-- once these run; the sink that takes what these hand on; and the fault, if the run has failed
pub record TailState (S : Type 0) : Type 0 where
  pub side_files : ℕ
  pub sides : List SideSource
  pub before : Fields
  pub stages : List Stage
  pub operators : Option (List RunningOperator)
  pub sink : S
  pub fault : Option Fault

-- the stages can begin over the sources before the main one, or they have, or the run has failed
pub record IsReady {S : Type 0} (t : TailState S) : Type 0 where
  pub fits : t.operators ≡ None → t.fault ≡ None → (after : Fields) × Fit (map (λ g. g.batch.fields) t.sides) t.before t.stages after
  pub runs : (rs : List RunningOperator) → t.operators ≡ Some rs → (t.fault ≡ None) × ((w : Transforming) × ((taken : List Row) × ((out : List Row) × (HasRun rs w taken out × (w.before ≡ t.before)))))
