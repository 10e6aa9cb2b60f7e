use Rattle.std.proofs.Common.{◌≡◌, ◌<◌, length, map, take}
use Rattle.std.specs.Prelude.{All}
use Rattle.fq_ops.specs.Grouped.{fresh}
use Rattle.fq_ops.specs.AggregateData.{outputs_of}
use Rattle.fq_ops.proofs.groups.accumulators_of.Given as goal

abbrev pub invariant-loop-agg : goal.invariant-loop-agg
invariant-loop-agg l = record {
  made : l.accumulators.items ≡ map (fresh l.schema) (outputs_of (take l.agg-index l.aggs));
  columns : All (λ a. a.column < length l.schema) l.accumulators.items;
}
