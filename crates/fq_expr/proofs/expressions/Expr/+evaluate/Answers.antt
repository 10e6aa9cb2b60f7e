use Rattle.std.proofs.Common.{◌≤◌, ◌∙◌, ℕ, List, ap, sym, subst, arith, map, length, take, refl, Some, Ok, Result, string_bytes}
use Rattle.std.specs.Prelude.{IfOk}
use Rattle.std.proofs.lemmas.List.{length-take-le}
use Rattle.std.proofs.lemmas.Result.{IfOk-weaker}
use Rattle.fq_column.specs.declared.faults.Memory.{Memory}
use Rattle.fq_column.specs.declared.cells.Cell.TheVariants as cell
use Rattle.fq_column.specs.Column.{nullable}
use Rattle.fq_column.specs.Frame.{Fields, Name, Row, value_named}
use Rattle.fq_column.specs.Schema.{kind_named}
use Rattle.fq_expr.specs.declared.expressions.Expr.{Expr}
use Rattle.fq_expr.specs.Expression.{Expression, null, whole, text, truth, unary, binary}
use Rattle.fq_expr.specs.ExpressionData.{expression_of}
use Rattle.fq_expr.specs.Evaluated.{IsOutcome, IsUnaryOutcome, IsBinaryOutcome}
use Rattle.fq_expr.specs.declared.operands.Outcome.{Outcome}
use Rattle.fq_expr.proofs.EvaluationLemmas.{map-replicate}
use Rattle.fq_expr.proofs.OutcomeLemmas.{constant-outcome, column-outcome, outcome-rows-le, unary-outcome, binary-outcome}
use Rattle.fq_expr.proofs.PrefixLemmas.{AnyHasRows-le}
use Rattle.fq_expr.proofs.expressions.Expr.+evaluate.Goals as goal

-- an outcome on the first rows has no more of them
no-more : (r : Result Outcome Memory) (fields : Fields) (e : Expression) (k : ℕ) (all : List Row) → k ≤ length all → IfOk r (IsOutcome fields e (take k all)) → IfOk r (λ (u : Outcome). u.rows ≤ k)
no-more r fields e k all h is =
    IfOk-weaker r (IsOutcome fields e (take k all)) (λ (u : Outcome). u.rows ≤ k) (λ u o. omega (arith, outcome-rows-le fields e (take k all) u o, length-take-le k all h)) is

pub apply_two-requires-clause-left_rows : goal.apply_two-requires-clause-left_rows
apply_two-requires-clause-left_rows t c =
    let le = outcome-rows-le c.args.batch.now.fields (expression_of c.deref-in-Two.result.now) (take c.args.rows c.args.batch.now.rows) c.in_ok-left-in-Two.left c.in_ok-left-in-Two.ensures.outcome in
    let below : c.in_ok-left-in-Two.left.rows ≤ length c.args.batch.now.rows = omega (arith, le, length-take-le c.args.rows c.args.batch.now.rows c.requires.rows) in
    AnyHasRows-le c.in_ok-right-in-Two.right.rows c.in_ok-left-in-Two.left.rows c.in_ok-left-in-Two.left.operand
    (omega (
      arith,
      outcome-rows-le c.args.batch.now.fields (expression_of c.deref-in-Two-2.result.now) (take c.in_ok-left-in-Two.left.rows c.args.batch.now.rows) c.in_ok-right-in-Two.right c.in_ok-right-in-Two.ensures.outcome,
      length-take-le c.in_ok-left-in-Two.left.rows c.args.batch.now.rows below,
    ))
    c.in_ok-left-in-Two.ensures.outcome.has_rows

pub returns-in-Col-clause-outcome : goal.returns-in-Col-clause-outcome
returns-in-Col-clause-outcome t c = rw c.in-Col.is (column-outcome c.args.batch.now.fields (string_bytes c.in-Col.name) c.args.rows c.args.batch.now.rows c.named.result c.requires.rows
    (ap (λ (n : Name). kind_named c.args.batch.now.fields n) (sym c.as_str.ensures.value) ∙ c.named.ensures.kind)
    c.named.ensures.rows
    (c.named.ensures.cells ∙ ap (λ (n : Name). map (value_named c.args.batch.now.fields n) c.args.batch.now.rows) c.as_str.ensures.value))

pub returns-in-Null-clause-outcome : goal.returns-in-Null-clause-outcome
returns-in-Null-clause-outcome t c = rw c.in-Null.is (constant-outcome c.args.batch.now.fields (null c.in-Null.kind) c.args.rows c.args.batch.now.rows c.nulls.result cell.Null c.requires.rows
    (ap Ok (sym c.nulls.ensures.kind)) (λ row. refl) (c.nulls.ensures.rows c.args.rows) (c.nulls.ensures.cells c.args.rows))

pub returns-in-Whole-clause-outcome : goal.returns-in-Whole-clause-outcome
returns-in-Whole-clause-outcome t c = rw c.in-Whole.is (constant-outcome c.args.batch.now.fields (whole c.in-Whole.number) c.args.rows c.args.batch.now.rows _ (cell.Whole c.in-Whole.number) c.requires.rows
    refl (λ row. refl) tt (map-replicate (nullable cell.Whole) c.args.rows (Some c.in-Whole.number)))

pub returns-in-Text-clause-outcome : goal.returns-in-Text-clause-outcome
returns-in-Text-clause-outcome t c = rw c.in-Text.is (constant-outcome c.args.batch.now.fields (text c.in-Text.text) c.args.rows c.args.batch.now.rows _ (cell.Text c.in-Text.text) c.requires.rows
    refl (λ row. refl) tt (map-replicate (nullable cell.Text) c.args.rows (Some c.in-Text.text)))

pub returns-in-Truth-clause-outcome : goal.returns-in-Truth-clause-outcome
returns-in-Truth-clause-outcome t c = rw c.in-Truth.is (constant-outcome c.args.batch.now.fields (truth c.in-Truth.truth) c.args.rows c.args.batch.now.rows _ (cell.Truth c.in-Truth.truth) c.requires.rows
    refl (λ row. refl) tt (map-replicate (nullable cell.Truth) c.args.rows (Some c.in-Truth.truth)))

pub returns-in_ok-part-in-One-clause-outcome : goal.returns-in_ok-part-in-One-clause-outcome
returns-in_ok-part-in-One-clause-outcome t c =
    let rows = take c.args.rows c.args.batch.now.rows in
    let part = c.in_ok-part-in-One.part in
    let P : Expr → Type 0 = λ x. IsOutcome c.args.batch.now.fields (expression_of x) rows part in
    let is : P c.in-One.part.value = subst P c.deref.ensures c.in_ok-part-in-One.ensures.outcome in
    rw c.in-One.is (IfOk-weaker c.apply_one.result (IsUnaryOutcome c.in-One.op part) (IsOutcome c.args.batch.now.fields (unary c.in-One.op (expression_of c.in-One.part.value)) rows)
    (λ u made. unary-outcome c.args.batch.now.fields c.in-One.op (expression_of c.in-One.part.value) rows part u is made) c.apply_one.ensures)

pub returns-in_ok-right-in-Two-clause-outcome : goal.returns-in_ok-right-in-Two-clause-outcome
returns-in_ok-right-in-Two-clause-outcome t c =
    let fields = c.args.batch.now.fields in
    let all = c.args.batch.now.rows in
    let left = c.in_ok-left-in-Two.left in
    let right = c.in_ok-right-in-Two.right in
    let d = expression_of c.in-Two.left.value in
    let e = expression_of c.in-Two.right.value in
    let P : Expr → Type 0 = λ x. IsOutcome fields (expression_of x) (take c.args.rows all) left in
    let Q : Expr → Type 0 = λ x. IsOutcome fields (expression_of x) (take left.rows all) right in
    let isl : P c.in-Two.left.value = subst P c.deref-in-Two.ensures c.in_ok-left-in-Two.ensures.outcome in
    let isr : Q c.in-Two.right.value = subst Q c.deref-in-Two-2.ensures c.in_ok-right-in-Two.ensures.outcome in
    rw c.in-Two.is (IfOk-weaker c.apply_two.result (IsBinaryOutcome c.in-Two.op left right) (IsOutcome fields (binary c.in-Two.op d e) (take c.args.rows all))
    (λ u made. binary-outcome fields c.in-Two.op d e c.args.rows all left right u c.requires.rows isl isr made) c.apply_two.ensures)

pub returns-in_ok-part-in-One-clause-rows : goal.returns-in_ok-part-in-One-clause-rows
returns-in_ok-part-in-One-clause-rows t c =
    no-more c.apply_one.result c.args.batch.now.fields (expression_of c.args.self.now) c.args.rows c.args.batch.now.rows c.requires.rows (returns-in_ok-part-in-One-clause-outcome t c)

pub returns-in_ok-right-in-Two-clause-rows : goal.returns-in_ok-right-in-Two-clause-rows
returns-in_ok-right-in-Two-clause-rows t c =
    no-more c.apply_two.result c.args.batch.now.fields (expression_of c.args.self.now) c.args.rows c.args.batch.now.rows c.requires.rows (returns-in_ok-right-in-Two-clause-outcome t c)
