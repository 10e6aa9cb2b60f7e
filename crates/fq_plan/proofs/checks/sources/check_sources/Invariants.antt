use Rattle.std.proofs.Common.{◌≡◌, ◌++◌, map, None}
use Rattle.fq_language.specs.Judged.{source_refusal}
use Rattle.fq_csv.specs.Sources.{source_of_files}
use Rattle.fq_language.specs.View.{source_data}
use Rattle.fq_plan.proofs.checks.sources.check_sources.Given as goal

abbrev pub invariant-loop-source : goal.invariant-loop-source
invariant-loop-source l = record {
  left : l.fn.sources.items ≡ l.yielded ++ l.source-iterator.rest.items;
  same : map source_of_files l.checked.items ≡ map source_data l.yielded;
  passed : source_refusal 0 (map source_data l.yielded) ≡ None;
}
