use Rattle.std.proofs.Common.{◌≡◌, drop, map}
use Rattle.std.specs.Prelude.{slice_get}
use Rattle.fq_language.specs.View.{source_data}
use Rattle.fq_language.proofs.FileLemmas.{layouts_in}
use Rattle.fq_language.proofs.plans.Plan.source_of.Given as goal

abbrev pub invariant-loop-source : goal.invariant-loop-source
invariant-loop-source l = slice_get (layouts_in (map source_data l.sources)) l.file ≡ slice_get (layouts_in (drop l.source-index (map source_data l.sources))) l.left
