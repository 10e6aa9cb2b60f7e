use Rattle.std.proofs.Common.{◌≡◌, [], Ok, string_bytes, subst, sym, ap, ◌∙◌, arith}
use Rattle.std.proofs.lemmas.List.{get_or-map, length-map}
use Rattle.fq_column.specs.declared.cells.Kind.{Kind}
use Rattle.fq_ops.specs.declared.aggregates.Agg.{Agg}
use Rattle.fq_ops.specs.Aggregate.{Output, len}
use Rattle.fq_ops.specs.AggregateData.{aggregate_of}
use Rattle.fq_ops.specs.Group.{aggregate_kind}
use Rattle.fq_ops.proofs.groups.accumulators_of.Goals as goal

pub resolve-function-requires-clause-known : goal.resolve-function-requires-clause-known
resolve-function-requires-clause-known c =
    let output : Agg → Output = λ a. (string_bytes a.name, aggregate_of a.what) in
    let aggs = c.args.aggs.now in
    let i = c.loop-agg.agg-index in
    let agg = c.agg-item.result in
    let low = length-map aggs output in
    let same = get_or-map output aggs i agg ([], len) (omega arith) ∙ ap output (sym c.agg-item.is) in
    subst (λ (o : Output). (k : Kind) × (aggregate_kind c.args.schema.now o.1 ≡ Ok k)) same (c.requires.known i ([], len) (omega (arith, low)))
