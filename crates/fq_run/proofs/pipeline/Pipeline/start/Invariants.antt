use Rattle.std.proofs.Common.{◌≡◌, map, drop}
use Rattle.fq_column.specs.Frame.{Fields}
use Rattle.fq_run.specs.Stages.{Fit}
use Rattle.fq_run.specs.Starting.{rights_of}
use Rattle.fq_run.proofs.StageTransforms.{StartedSoFar}
use Rattle.fq_run.proofs.pipeline.Pipeline.start.Given as goal

abbrev pub invariant-loop-number : goal.invariant-loop-number
invariant-loop-number l = record {
  rights : rights_of l.sides.items (drop l.number l.stages) ≡ rights_of l.fn.sides.items (drop l.number l.stages);
  started : (after : Fields) → Fit (map (λ f. f.fields) l.fn.sides.items) l.fn.schema l.stages after →
      StartedSoFar l.fn.sides.items l.fn.schema l.stages after l.operators.items l.at (drop l.number l.stages);
}
