use Rattle.std.proofs.Common.{Err, string_bytes, sym, ap, ◌∙◌, arith}
use Rattle.std.proofs.lemmas.Result.{err_from_is_err_and}
use Rattle.fq_column.proofs.SchemaLemmas.{slice_get-at}
use Rattle.fq_ops.specs.declared.aggregates.Agg.{Agg}
use Rattle.fq_ops.specs.Group.{aggregate_kind}
use Rattle.fq_ops.specs.AggregateData.{aggregate_of}
use Rattle.fq_ops.specs.Fields.{Judged}
use Rattle.fq_ops.proofs.JudgedFieldLemmas.{refused-at, passed-more}
use Rattle.fq_ops.proofs.output_schemas.check_aggregates.Goals as goal

pub returns-in_err-kind_of_aggregate-clause-err : goal.returns-in_err-kind_of_aggregate-clause-err
returns-in_err-kind_of_aggregate-clause-err c =
    let judge : Agg → Judged = λ a. (string_bytes a.name, aggregate_kind c.args.schema.now (aggregate_of a.what)) in
    let aggs = c.args.aggs.now in
    let agg = c.agg-item.result in
    let at = slice_get-at aggs c.loop-agg.agg-index agg (omega arith) c.agg-item.is in
    let exit = err_from_is_err_and c.from_residual.result c.from_residual.ensures.1 in
    rw (exit.1) (refused-at judge aggs c.loop-agg.agg-index agg _ at c.loop-agg.invariant (sym c.kind_of_aggregate.ensures ∙ c.in_err-kind_of_aggregate.was ∙ ap Err (sym exit.2)))

pub loop-agg-preserved : goal.loop-agg-preserved
loop-agg-preserved c =
    let judge : Agg → Judged = λ a. (string_bytes a.name, aggregate_kind c.args.schema.now (aggregate_of a.what)) in
    let aggs = c.args.aggs.now in
    let agg = c.agg-item.result in
    let at = slice_get-at aggs c.loop-agg.agg-index agg (omega arith) c.agg-item.is in
    passed-more judge aggs c.loop-agg.agg-index agg _ at c.loop-agg.invariant (sym c.in_ok-kind_of_aggregate.ensures)
