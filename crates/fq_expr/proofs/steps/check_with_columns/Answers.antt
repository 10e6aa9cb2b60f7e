use Rattle.std.proofs.Common.{◌∙◌, ap, sym, arith}
use Rattle.std.proofs.lemmas.Result.{err_from_is_err_and}
use Rattle.fq_column.specs.Refusal.{refusal_of}
use Rattle.fq_expr.specs.ExpressionData.{items_of}
use Rattle.fq_expr.specs.Outputs.{all_kinds}
use Rattle.fq_expr.proofs.JudgementLemmas.{refused-is, settled-is, with_columns-refused, with_columns-too_many, with_columns-double, with_columns-judged}
use Rattle.fq_expr.proofs.steps.check_with_columns.Goals as goal

pub returns-in_err-check_items-clause-err : goal.returns-in_err-check_items-clause-err
returns-in_err-check_items-clause-err c =
    let fault = c.in_err-check_items.field-0.0 in
    let p = err_from_is_err_and c.from_residual.result c.from_residual.ensures.1 in
    rw (p.1, p.2) (ap refusal_of (with_columns-refused c.args.schema.now (items_of c.args.items.now) fault (refused-is (all_kinds c.args.schema.now (items_of c.args.items.now)) fault c.in_err-check_items.ensures.err)))

pub returns-then-new_columns-len-gt-MAX_COLUMNS-clause-err : goal.returns-then-new_columns-len-gt-MAX_COLUMNS-clause-err
returns-then-new_columns-len-gt-MAX_COLUMNS-clause-err c =
    let kinds = settled-is (all_kinds c.args.schema.now (items_of c.args.items.now)) c.in_ok-check_items.ensures.ok in
    ap refusal_of (with_columns-too_many c.args.schema.now (items_of c.args.items.now) kinds.0 kinds.1
    (omega (arith, c.new_columns.ensures.exact, c.len.ensures.len, c.if-new_columns-len-gt-MAX_COLUMNS.true)))

pub returns-then-has_double-clause-err : goal.returns-then-has_double-clause-err
returns-then-has_double-clause-err c =
    let kinds = settled-is (all_kinds c.args.schema.now (items_of c.args.items.now)) c.in_ok-check_items.ensures.ok in
    ap refusal_of (with_columns-double c.args.schema.now (items_of c.args.items.now) kinds.0 kinds.1
    (omega (arith, c.new_columns.ensures.exact, c.len.ensures.len, c.if-new_columns-len-gt-MAX_COLUMNS.false)) (sym c.has_double.ensures ∙ c.if-has_double.true))

pub returns-clause-ok : goal.returns-clause-ok
returns-clause-ok c =
    let kinds = settled-is (all_kinds c.args.schema.now (items_of c.args.items.now)) c.in_ok-check_items.ensures.ok in
    ap refusal_of (with_columns-judged c.args.schema.now (items_of c.args.items.now) kinds.0 kinds.1
    (omega (arith, c.new_columns.ensures.exact, c.len.ensures.len, c.if-new_columns-len-gt-MAX_COLUMNS.false)) (sym c.has_double.ensures ∙ c.if-has_double.false))
