use Rattle.std.proofs.Common.{◌∙◌, ap, map, arith}
use Rattle.std.proofs.Math.Seq.{take_all}
use Rattle.fq_run.specs.EngineRun.{no_rows}
use Rattle.fq_run.proofs.openings.empty_sources.Goals as goal

pub returns : goal.returns
returns c = c.loop-source.invariant ∙ ap (map (λ s. no_rows s.files s.layout.schema)) (take_all c.loop-source.source-index c.args.sides.now (grind (arith)))
