use Rattle.std.proofs.Common.{◌≡◌, map, take}
use Rattle.fq_run.specs.EngineRun.{no_rows}
use Rattle.fq_run.proofs.openings.empty_sources.Given as goal

abbrev pub invariant-loop-source : goal.invariant-loop-source
invariant-loop-source l = l.sources.items ≡ map (λ s. no_rows s.files s.layout.schema) (take l.source-index l.sides)
