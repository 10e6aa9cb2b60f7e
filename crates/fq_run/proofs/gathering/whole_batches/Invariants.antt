use Rattle.std.proofs.Common.{◌≡◌, ◌++◌, map, None}
use Rattle.fq_run.specs.Gathering.{gathered_stream}
use Rattle.fq_run.specs.Sources.{first_fault}
use Rattle.fq_run.proofs.gathering.whole_batches.Given as goal

abbrev pub invariant-loop-source : goal.invariant-loop-source
invariant-loop-source l =
    (l.fn.sources.items ≡ l.yielded ++ l.source-iterator.rest.items)
    × (first_fault (map gathered_stream l.yielded) ≡ None)
    × (l.batches.items ≡ map (λ g. g.batch) l.yielded)
