-- What a pipeline has taken and handed on, by the transforms that its operators are.
use Rattle.std.specs.Prelude.{◌≡◌, List, ◌++◌, Some}
use Rattle.fq_column.specs.Frame.{Fields, Row}
use Rattle.fq_column.specs.Stream.{Stream, done, then_stream}
use Rattle.fq_run.specs.Transforms.{Chain, Transform, given_all, whole_all}
use Rattle.fq_run.specs.RunningOperators.{HaveTaken}
use Rattle.fq_run.specs.declared.faults.Fault.{Fault}
use Rattle.fq_run.specs.declared.operators.RunningOperator.{RunningOperator}

-- transforms in a row, on rows with these columns, which they take to those
pub record Transforming : Type 0 where
  pub before : Fields
  pub transforms : List Transform
  pub after : Fields

-- operators that run as these have taken these rows, and handed on those
pub record HasRun (operators : List RunningOperator) (w : Transforming) (rows out : List Row) : Type 0 where
  pub taken : HaveTaken operators w.transforms rows
  pub chain : Chain w.before w.transforms w.after
  pub given : given_all w.transforms (done rows) ≡ done out

-- operators that had taken rows have taken some more, and handed on what they make of these at once
pub record HandsOn {S : Type 0} (has : S → Fields → List Row → Type 0) (operators : List RunningOperator) (ms : List Transform) (rows : List Row) (after : Fields) (taken : List Row) (old new : S) : Type 0 where
  pub more : List Row
  pub have : HaveTaken operators ms (rows ++ taken)
  pub given : given_all ms (done (rows ++ taken)) ≡ then_stream (given_all ms (done rows)) (done more)
  pub sink : (out : List Row) → has old after out → has new after (out ++ more)

-- after these rows, a stream comes to this fault, whatever comes after it
abbrev pub EndsIn : List Transform → List Row → Stream Fault → Fault → Type 0
EndsIn ms rows input f = (rest : Stream Fault) → (whole_all ms (then_stream (then_stream (done rows) input) rest)).fault ≡ Some f
