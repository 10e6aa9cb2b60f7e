use Rattle.std.proofs.Common.{◌≡◌, ◌<◌, ℕ, ◌∙◌, ap, sym, subst, arith, List, Option, Some, length, map, take, string_bytes, String, Global}
use Rattle.std.specs.Prelude.{IsOk, IfSome}
use Rattle.std.proofs.lemmas.List.{get_or_default, length-take-le, take_all}
use Rattle.std.proofs.lemmas.List.Elements.{All-nil}
use Rattle.fq_expr.specs.declared.application.Made.{Made}
use Rattle.fq_expr.specs.declared.expressions.Expr.{Expr}
use Rattle.fq_expr.specs.Expression.{Item}
use Rattle.fq_expr.specs.Kinds.{kind_of}
use Rattle.fq_expr.specs.ExpressionData.{items_of, expression_of}
use Rattle.fq_expr.specs.Evaluated.{IsOutcome}
use Rattle.fq_expr.specs.Made.{AreEvaluated, ArePlaces, IfPlace, IsPlaceOf, made_column}
use Rattle.fq_expr.proofs.EvaluatedItems.{no-item}
use Rattle.fq_expr.proofs.ItemLemmas.{items_of-at, items_of-step, length-items_of}
use Rattle.fq_expr.proofs.ItemRowLemmas.{kind-at}
use Rattle.fq_expr.proofs.MadeLemmas.{evaluated-faults, evaluated-on}
use Rattle.fq_expr.proofs.application.evaluate_items.Goals.{then-outcome-rows, else-outcome-rows}
use Rattle.fq_expr.proofs.application.evaluate_items.Goals as goal

pub loop-i-init : goal.loop-i-init
loop-i-init c =
    let made = c.in_ok-made.made.items in
    let none = c.in_ok-made.ensures.items in
    record {
      places = subst (ArePlaces (length c.args.batch.now.fields)) (sym none) (All-nil (IfPlace (λ i. i < length c.args.batch.now.fields)));
      columns = no-item c.args.batch.now.fields c.args.batch.now.rows (map (made_column c.args.batch.now) made) c.rows-rows.result (ap (map (made_column c.args.batch.now)) none) c.rows-rows.ensures.rows;
    }

pub evaluate-requires-clause-kind : goal.evaluate-requires-clause-kind
evaluate-requires-clause-kind c =
    let P : String Global × Expr → Type 0 = λ z. IsOk (kind_of c.args.batch.now.fields (expression_of z.1)) in
    subst P c.index-items-i.is (kind-at c.args.batch.now.fields (items_of c.args.items.now) c.loop-i.i (string_bytes c.index-items-i.result.0, expression_of c.index-items-i.result.1) c.requires.kinds
    (omega (arith, length-items_of c.args.items.now, c.loop-i-test.true))
    (sym (items_of-at c.args.items.now c.loop-i.i c.index-items-i.result (string_bytes c.index-items-i.result.0, expression_of c.index-items-i.result.1) c.loop-i-test.true c.index-items-i.is)))

pub loop-i-preserved : goal.loop-i-preserved
loop-i-preserved c =
    let f = c.args.batch.now in
    let u = c.in_ok-outcome.outcome in
    let one = c.in_ok-made_of.field-0 in
    let x : Item = (string_bytes c.index-items-i.result.0, expression_of c.index-items-i.result.1) in
    let items = take c.loop-i.i (items_of c.args.items.now) in
    let n : length items ≡ c.loop-i.i = length-take-le c.loop-i.i (items_of c.args.items.now) (omega (arith, length-items_of c.args.items.now, c.loop-i-test.true)) in
    let P : String Global × Expr → Type 0 = λ z. IsOutcome f.fields (expression_of z.1) (take c.loop-i.rows f.rows) u in
    let is : IsOutcome f.fields x.1 (take c.loop-i.rows f.rows) u = subst P (sym c.index-items-i.is) c.in_ok-outcome.ensures.outcome in
    let R : String Global × Expr → Type 0 = λ z. IfSome c.place_of.result (IsPlaceOf f (expression_of z.1)) in
    let place : IfSome c.place_of.result (IsPlaceOf f x.1) = subst R (get_or_default c.args.items.now c.loop-i.i c.index-items-i-in-loop-i.result c.index-items-i.result c.loop-i-test.true ∙ sym c.index-items-i.is) c.place_of.ensures in
    let more = items_of-step c.args.items.now c.loop-i.i c.index-items-i.result c.loop-i-test.true c.index-items-i.is in
    let Q : List Item → List Made → ℕ → Option ℕ → Type 0 = λ a b m o. AreEvaluated f a b m o in
    elim c.if-outcome-rows.branch [
      | then-outcome-rows w ↦
          let done = evaluated-faults f items c.loop-i.made.items c.loop-i.rows c.loop-i.item x u c.loop-i.invariant is c.place_of.result one place c.in_ok-made_of.ensures w.if-outcome-rows.true in
          coe 0 1 (i. Q (sym more i) (sym c.in_ok-push.ensures.items i) (sym w.rows-is i) ((ap Some n ∙ sym w.item-is) i)) done
      | else-outcome-rows w ↦
          let done = evaluated-on f items c.loop-i.made.items c.loop-i.rows c.loop-i.item x u c.loop-i.invariant is c.place_of.result one place c.in_ok-made_of.ensures w.if-outcome-rows.false in
          coe 0 1 (i. Q (sym more i) (sym c.in_ok-push.ensures.items i) (sym w.rows-is i) (sym w.item-is i)) done
    ]

pub returns : goal.returns
returns c = subst (λ items. AreEvaluated c.args.batch.now items c.loop-i.made.items c.loop-i.rows c.loop-i.item) (take_all c.loop-i.i (items_of c.args.items.now) (omega (arith, length-items_of c.args.items.now, c.loop-i-test.false))) c.loop-i.invariant
