use Rattle.std.proofs.Common.{◌++◌, ◌∷◌, [], Err, map, take, string_bytes, sym, ap, ◌∙◌, inl, arith, append_assoc}
use Rattle.std.proofs.Math.Seq.{take_all}
use Rattle.std.proofs.lemmas.Result.{err_from_is_err_and}
use Rattle.fq_column.specs.Refusal.{first_refusal}
use Rattle.fq_ops.specs.declared.aggregates.Agg.{Agg}
use Rattle.fq_ops.specs.Group.{aggregate_kind}
use Rattle.fq_ops.specs.AggregateData.{aggregate_of}
use Rattle.fq_column.proofs.SchemaLemmas.{slice_get-at}
use Rattle.fq_ops.specs.Fields.{Judged, refusals, settled}
use Rattle.fq_ops.proofs.JudgedFieldLemmas.{refused-at, passed-more, settled-more}
use Rattle.fq_ops.proofs.output_schemas.add_aggregates.Goals as goal

pub returns-in_err-kind-clause-err : goal.returns-in_err-kind-clause-err
returns-in_err-kind-clause-err c =
    let judge : Agg → Judged = λ a. (string_bytes a.name, aggregate_kind c.args.schema.now (aggregate_of a.what)) in
    let aggs = c.args.aggs.now in
    let agg = c.agg-item.result in
    let at = slice_get-at aggs c.loop-agg.agg-index agg (omega arith) c.agg-item.is in
    let exit = err_from_is_err_and c.from_residual.result c.from_residual.ensures.1 in
    rw (exit.1) (inl (refused-at judge aggs c.loop-agg.agg-index agg _ at c.loop-agg.invariant.passed (sym c.kind_of_aggregate.ensures ∙ c.in_err-kind.was ∙ ap Err (sym exit.2))))

pub loop-agg-preserved : goal.loop-agg-preserved
loop-agg-preserved c =
    let judge : Agg → Judged = λ a. (string_bytes a.name, aggregate_kind c.args.schema.now (aggregate_of a.what)) in
    let aggs = c.args.aggs.now in
    let i = c.loop-agg.agg-index in
    let agg = c.agg-item.result in
    let at = slice_get-at aggs i agg (omega arith) c.agg-item.is in
    let is = sym c.in_ok-kind.ensures in
    record {
      passed = passed-more judge aggs i agg c.in_ok-kind.kind at c.loop-agg.invariant.passed is;
      fields = c.in_ok-push.ensures.ok
          ∙ ap (λ n. c.loop-agg.fields ++ (n, c.in_ok-kind.kind) ∷ []) (c.in_ok-copy_name.ensures.ok ∙ c.as_str.ensures.value)
          ∙ ap (λ fs. fs ++ (string_bytes agg.name, c.in_ok-kind.kind) ∷ []) c.loop-agg.invariant.fields
          ∙ append_assoc c.args.fields.now (settled (map judge (take i aggs))) ((string_bytes agg.name, c.in_ok-kind.kind) ∷ [])
          ∙ ap (λ fs. c.args.fields.now ++ fs) (sym (settled-more judge aggs i agg c.in_ok-kind.kind at is));
    }

pub returns-clause-ok : goal.returns-clause-ok
returns-clause-ok c =
    let judge : Agg → Judged = λ a. (string_bytes a.name, aggregate_kind c.args.schema.now (aggregate_of a.what)) in
    let all = take_all c.loop-agg.agg-index c.args.aggs.now (omega arith) in (
      ap (λ xs. first_refusal (refusals (map judge xs))) (sym all) ∙ c.loop-agg.invariant.passed,
      c.loop-agg.invariant.fields ∙ ap (λ xs. c.args.fields.now ++ settled (map judge xs)) all,
    )
