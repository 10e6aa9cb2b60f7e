use Rattle.std.proofs.Common.{◌≡◌, drop, map, take}
use Rattle.fq_language.specs.Judged.{source_refusal}
use Rattle.fq_language.specs.View.{source_data}
use Rattle.fq_language.proofs.refusals.source_schemas.Given as goal

abbrev pub invariant-loop-source : goal.invariant-loop-source
invariant-loop-source l = record {
  schemas : l.schemas.items ≡ map (λ s. s.fields) (map source_data (take l.source-index l.sources));
  passed : source_refusal 0 (map source_data l.sources) ≡ source_refusal l.source-index (map source_data (drop l.source-index l.sources));
}
