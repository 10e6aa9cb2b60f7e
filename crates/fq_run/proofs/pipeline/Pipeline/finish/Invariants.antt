use Rattle.std.proofs.Common.{◌≡◌, List, drop, length}
use Rattle.fq_column.specs.Frame.{Row}
use Rattle.fq_notation.specs.declared.notations.Notation.{Notation}
use Rattle.fq_run.specs.Pipelines.{HasRun, Transforming}
use Rattle.fq_run.proofs.PipelineLemmas.{IsEnding}
use Rattle.fq_run.proofs.pipeline.Pipeline.finish.Given as goal

abbrev pub invariant-loop-place : goal.invariant-loop-place
invariant-loop-place g l = (length l.self.operators.items ≡ length l.fn.self.operators.items)
    × ((notations : List Notation) (w : Transforming) (rows out : List Row) → HasRun l.fn.self.operators.items w rows out → IsEnding (g.S.RowSink.has notations) w rows out l.fn.sink l.sink (drop l.place l.self.operators.items))
