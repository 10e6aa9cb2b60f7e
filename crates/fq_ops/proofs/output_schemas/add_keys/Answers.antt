use Rattle.std.proofs.Common.{◌++◌, ◌∷◌, [], Err, String, Global, map, take, string_bytes, sym, ap, ◌∙◌, inl, arith, append_assoc}
use Rattle.std.proofs.Math.Seq.{take_all}
use Rattle.std.proofs.lemmas.Result.{err_from_is_err_and}
use Rattle.fq_column.specs.Refusal.{first_refusal}
use Rattle.fq_column.specs.Schema.{kind_named}
use Rattle.fq_column.proofs.SchemaLemmas.{slice_get-at}
use Rattle.fq_ops.specs.Fields.{Judged, refusals, settled}
use Rattle.fq_ops.proofs.JudgedFieldLemmas.{refused-at, passed-more, settled-more}
use Rattle.fq_ops.proofs.output_schemas.add_keys.Goals as goal

pub returns-in_err-kind-clause-err : goal.returns-in_err-kind-clause-err
returns-in_err-kind-clause-err c =
    let judge : String Global → Judged = λ k. (string_bytes k, kind_named c.args.schema.now (string_bytes k)) in
    let keys = c.args.keys.now in
    let key = c.key-item.result in
    let at = slice_get-at keys c.loop-key.key-index key (omega arith) c.key-item.is in
    let exit = err_from_is_err_and c.from_residual.result c.from_residual.ensures.1 in
    rw (exit.1) (inl (refused-at judge keys c.loop-key.key-index key _ at c.loop-key.invariant.passed (ap (kind_named c.args.schema.now) (sym c.as_str.ensures.value) ∙ sym c.kind_of.ensures ∙ c.in_err-kind.was ∙ ap Err (sym exit.2))))

pub loop-key-preserved : goal.loop-key-preserved
loop-key-preserved c =
    let judge : String Global → Judged = λ k. (string_bytes k, kind_named c.args.schema.now (string_bytes k)) in
    let keys = c.args.keys.now in
    let i = c.loop-key.key-index in
    let key = c.key-item.result in
    let at = slice_get-at keys i key (omega arith) c.key-item.is in
    let is = ap (kind_named c.args.schema.now) (sym c.as_str.ensures.value) ∙ sym c.in_ok-kind.ensures in
    record {
      passed = passed-more judge keys i key c.in_ok-kind.kind at c.loop-key.invariant.passed is;
      fields = c.in_ok-push.ensures.ok
          ∙ ap (λ n. c.loop-key.fields ++ (n, c.in_ok-kind.kind) ∷ []) (c.in_ok-copy_name.ensures.ok ∙ c.as_str-in-loop-key.ensures.value)
          ∙ ap (λ fs. fs ++ (string_bytes key, c.in_ok-kind.kind) ∷ []) c.loop-key.invariant.fields
          ∙ append_assoc c.args.fields.now (settled (map judge (take i keys))) ((string_bytes key, c.in_ok-kind.kind) ∷ [])
          ∙ ap (λ fs. c.args.fields.now ++ fs) (sym (settled-more judge keys i key c.in_ok-kind.kind at is));
    }

pub returns-clause-ok : goal.returns-clause-ok
returns-clause-ok c =
    let judge : String Global → Judged = λ k. (string_bytes k, kind_named c.args.schema.now (string_bytes k)) in
    let all = take_all c.loop-key.key-index c.args.keys.now (omega arith) in (
      ap (λ ks. first_refusal (refusals (map judge ks))) (sym all) ∙ c.loop-key.invariant.passed,
      c.loop-key.invariant.fields ∙ ap (λ ks. c.args.fields.now ++ settled (map judge ks)) all,
    )
