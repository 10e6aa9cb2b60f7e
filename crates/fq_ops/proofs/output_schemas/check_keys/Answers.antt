use Rattle.std.proofs.Common.{Err, String, Global, string_bytes, sym, ap, ◌∙◌, arith}
use Rattle.std.proofs.lemmas.Result.{err_from_is_err_and}
use Rattle.fq_column.specs.Schema.{kind_named}
use Rattle.fq_column.proofs.SchemaLemmas.{slice_get-at}
use Rattle.fq_ops.specs.Fields.{Judged}
use Rattle.fq_ops.proofs.JudgedFieldLemmas.{refused-at, passed-more}
use Rattle.fq_ops.proofs.output_schemas.check_keys.Goals as goal

pub returns-in_err-kind_of-clause-err : goal.returns-in_err-kind_of-clause-err
returns-in_err-kind_of-clause-err c =
    let judge : String Global → Judged = λ k. (string_bytes k, kind_named c.args.schema.now (string_bytes k)) in
    let keys = c.args.keys.now in
    let key = c.key-item.result in
    let at = slice_get-at keys c.loop-key.key-index key (omega arith) c.key-item.is in
    let exit = err_from_is_err_and c.from_residual.result c.from_residual.ensures.1 in
    rw (exit.1) (refused-at judge keys c.loop-key.key-index key _ at c.loop-key.invariant (ap (kind_named c.args.schema.now) (sym c.as_str.ensures.value) ∙ sym c.kind_of.ensures ∙ c.in_err-kind_of.was ∙ ap Err (sym exit.2)))

pub loop-key-preserved : goal.loop-key-preserved
loop-key-preserved c =
    let judge : String Global → Judged = λ k. (string_bytes k, kind_named c.args.schema.now (string_bytes k)) in
    let keys = c.args.keys.now in
    let key = c.key-item.result in
    let at = slice_get-at keys c.loop-key.key-index key (omega arith) c.key-item.is in
    passed-more judge keys c.loop-key.key-index key _ at c.loop-key.invariant (ap (kind_named c.args.schema.now) (sym c.as_str.ensures.value) ∙ sym c.in_ok-kind_of.ensures)
