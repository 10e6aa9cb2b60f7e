use Rattle.std.proofs.Common.{◌≡◌, ℕ, zero, suc, ◌≤◌, false, map, arith}
use Rattle.std.specs.Prelude.{◌==◌, codes}
use Rattle.std.proofs.lemmas.List.{length-map}
use Rattle.serde_json.specs.View.{view}
use Rattle.fq_language.specs.Spelling.{source_of}
use Rattle.fq_language.specs.View.{source_data}
use Rattle.fq_language.proofs.LimitLemmas.{member-all, source_of-files}
use Rattle.fq_language.proofs.reading.plans.read_plan_members.Goals as goal

not-empty : (n : ℕ) → false ≡ (n == 0) → 1 ≤ n
not-empty zero e = absurd (cc)
not-empty (suc n) e = omega arith

pub invariant_of-result : goal.invariant_of-result
invariant_of-result c = let sources = c.in_ok-sources.sources in let steps = c.in_ok-steps.steps in record {
  some_source = rw length-map (omega (arith, sources.ok.0, not-empty _ c.if-is_empty.ensures));
  few_sources = rw length-map (omega (arith, sources.ok.0));
  some_files = member-all (source_of c.in_ok-version.version) (λ s. 1 ≤ s.files) (source_of-files c.in_ok-version.version) (codes "sources") (view c.args.value.now) (map source_data sources.items) c.in_ok-sources.ensures;
  few_files = rw (← c.deref.ensures.value, ← c.file_count.ensures) (omega arith);
  few_steps = rw length-map (omega (arith, steps.ok.0));
}
