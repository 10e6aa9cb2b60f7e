use Rattle.std.proofs.Common.{◌≡◌, ◌++◌, map}
use Rattle.fq_run.specs.Noted.{noted_files}
use Rattle.fq_run.proofs.noted_plans.noted_sources.Given as goal

abbrev pub invariant-loop-source : goal.invariant-loop-source
invariant-loop-source l = record {
  left : l.fn.sources.items ≡ l.yielded ++ l.source-iterator.rest.items;
  changed : l.changed.items ≡ map (noted_files l.named) l.yielded;
}
