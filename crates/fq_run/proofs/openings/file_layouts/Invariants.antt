use Rattle.std.proofs.Common.{◌≡◌, flat_map, replicate, take}
use Rattle.fq_run.proofs.openings.file_layouts.Given as goal

abbrev pub invariant-loop-source : goal.invariant-loop-source
invariant-loop-source l = l.layouts.items ≡ flat_map (λ s. replicate s.files s.layout) (take l.source-index l.sides)
