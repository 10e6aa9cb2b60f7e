use Rattle.std.proofs.Common.{List, length, drop, ◌+◌, ◌-◌}
use Rattle.fq_notation.specs.declared.notations.Notation.{Notation}
use Rattle.fq_run.specs.declared.operators.RunningOperator.{RunningOperator}
use Rattle.fq_run.proofs.PipelineLemmas.{IsAt, IsOnItsWay}
use Rattle.fq_run.proofs.pipeline.Pipeline.+pass.Given as goal

abbrev pub decreases-pass : goal.decreases-pass
decreases-pass g l = length l.self.now.operators.items - l.place

abbrev pub invariant-loop : goal.invariant-loop
invariant-loop g l = (notations : List Notation) → (r : RunningOperator)
    × (IsAt l.fn.self.operators.items l.place l.self.operators.items r
    × IsOnItsWay (g.S.RowSink.has notations) (drop l.place l.fn.self.operators.items) l.fn.input l.fn.sink r (drop (l.place + 1) l.self.operators.items) l.made l.sink)
