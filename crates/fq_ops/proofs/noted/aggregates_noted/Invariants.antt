use Rattle.std.proofs.Common.{◌≡◌, drop}
use Rattle.fq_notation.specs.Naming.{before_all}
use Rattle.fq_ops.specs.AggregateData.{outputs_of}
use Rattle.fq_ops.specs.Noted.{aggregates_noted}
use Rattle.fq_ops.proofs.noted.aggregates_noted.Given as goal

abbrev pub invariant-loop-place : goal.invariant-loop-place
invariant-loop-place l =
    aggregates_noted l.columns l.named l.said 0 (outputs_of l.aggs)
    ≡ before_all l.made (aggregates_noted l.columns l.named l.said l.place (outputs_of (drop l.place l.aggs)))
