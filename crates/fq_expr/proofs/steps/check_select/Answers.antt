use Rattle.std.proofs.Common.{◌<◌, ◌∙◌, ap, sym, arith, length}
use Rattle.std.proofs.lemmas.Bool.Decides.{nat_tests}
use Rattle.std.proofs.lemmas.Result.{err_from_is_err_and}
use Rattle.fq_column.specs.Refusal.{refusal_of}
use Rattle.fq_expr.specs.ExpressionData.{items_of}
use Rattle.fq_expr.specs.Outputs.{all_kinds}
use Rattle.fq_expr.proofs.ItemLemmas.{length-items_of}
use Rattle.fq_expr.proofs.JudgementLemmas.{refused-is, settled-is, select-refused, select-too_many, select-double, select-settled}
use Rattle.fq_expr.proofs.steps.check_select.Goals as goal
use Rattle.fq_expr.proofs.steps.check_select.Goals.{Else-is_empty}

some_item : (c : Else-is_empty) → 0 < length (items_of c.args.items.now)
some_item c = let e = c.is_empty.ensures in let f = c.if-is_empty.false in grind (arith, nat_tests, length-items_of c.args.items.now)

pub returns-in_err-check_items-clause-err : goal.returns-in_err-check_items-clause-err
returns-in_err-check_items-clause-err c =
    let fault = c.in_err-check_items.field-0.0 in
    let p = err_from_is_err_and c.from_residual.result c.from_residual.ensures.1 in
    rw (p.1, p.2) (ap refusal_of (select-refused c.args.schema.now (items_of c.args.items.now) (some_item (goal.at.returns-in_err-check_items-clause-err c).Else-is_empty) fault
    (refused-is (all_kinds c.args.schema.now (items_of c.args.items.now)) fault c.in_err-check_items.ensures.err)))

pub returns-then-items-gt-MAX_COLUMNS-clause-err : goal.returns-then-items-gt-MAX_COLUMNS-clause-err
returns-then-items-gt-MAX_COLUMNS-clause-err c =
    let kinds = settled-is (all_kinds c.args.schema.now (items_of c.args.items.now)) c.in_ok-check_items.ensures.ok in
    ap refusal_of (select-too_many c.args.schema.now (items_of c.args.items.now) kinds.0 (some_item (goal.at.returns-then-items-gt-MAX_COLUMNS-clause-err c).Else-is_empty) kinds.1
    (omega (arith, length-items_of c.args.items.now, c.if-items-gt-MAX_COLUMNS.true)))

pub returns-then-has_double-clause-err : goal.returns-then-has_double-clause-err
returns-then-has_double-clause-err c =
    let kinds = settled-is (all_kinds c.args.schema.now (items_of c.args.items.now)) c.in_ok-check_items.ensures.ok in
    ap refusal_of (select-double c.args.schema.now (items_of c.args.items.now) kinds.0 (some_item (goal.at.returns-then-has_double-clause-err c).Else-is_empty) kinds.1
    (omega (arith, length-items_of c.args.items.now, c.if-items-gt-MAX_COLUMNS.false)) (sym c.has_double.ensures ∙ c.if-has_double.true))

pub returns-clause-ok : goal.returns-clause-ok
returns-clause-ok c =
    let kinds = settled-is (all_kinds c.args.schema.now (items_of c.args.items.now)) c.in_ok-check_items.ensures.ok in
    ap refusal_of (select-settled c.args.schema.now (items_of c.args.items.now) kinds.0 (some_item (goal.at.returns-clause-ok c).Else-is_empty) kinds.1
    (omega (arith, length-items_of c.args.items.now, c.if-items-gt-MAX_COLUMNS.false)) (sym c.has_double.ensures ∙ c.if-has_double.false))
