use Rattle.std.proofs.Common.{◌≡◌, ℕ, ◌+◌, ◌∙◌, Bool, true, false, not, cond, ◌∷◌, ap, sym, arith, drop, string_bytes, refl, Option, Some, None}
use Rattle.std.specs.Option.{is_none, is_some}
use Rattle.std.proofs.lemmas.List.{at_drop_more}
use Rattle.fq_column.specs.Frame.{names_of, has_name, same_name, position_of}
use Rattle.fq_expr.specs.Kinds.{count_new, item_names}
use Rattle.fq_expr.specs.ExpressionData.{items_of}
use Rattle.fq_expr.proofs.OutputLemmas.{is_none-position, count_new-cons}
use Rattle.fq_expr.proofs.steps.new_columns.Goals as goal
use Rattle.fq_expr.proofs.steps.new_columns.Goals.{then-is_none, else-is_none}

turned : (a b : Bool) → a ≡ not b → b ≡ not a
turned true true e = cc
turned true false e = refl
turned false true e = refl
turned false false e = cc

answer_is : (o : Option ℕ) (b : Bool) → is_some o ≡ not b → b ≡ is_none o
answer_is None true e = refl
answer_is None false e = cc
answer_is (Some n) true e = cc
answer_is (Some n) false e = refl

pub loop-item-preserved : goal.loop-item-preserved
loop-item-preserved c =
    let at : count_new c.args.schema.now (item_names (items_of (drop c.loop-item.item-index c.args.items.now))) ≡ cond (not c.is_none.result) 0 1 + count_new c.args.schema.now (item_names (items_of (drop (c.loop-item.item-index + 1) c.args.items.now))) =
    at_drop_more (λ xs. count_new c.args.schema.now (item_names (items_of xs))) c.args.items.now c.loop-item.item-index c.item-item.result c.loop-item-test.true
    ∙ ap (λ x. count_new c.args.schema.now (item_names (items_of (x ∷ drop (c.loop-item.item-index + 1) c.args.items.now)))) (sym c.item-item.is)
    ∙ count_new-cons c.args.schema.now (string_bytes c.item-item.result.0) (item_names (items_of (drop (c.loop-item.item-index + 1) c.args.items.now)))
    ∙ ap (λ b. cond b 0 1 + count_new c.args.schema.now (item_names (items_of (drop (c.loop-item.item-index + 1) c.args.items.now))))
    (turned c.is_none.result (has_name (names_of c.args.schema.now) (string_bytes c.item-item.result.0))
    (answer_is c.position.result c.is_none.result c.is_none.ensures ∙ ap is_none c.position.ensures ∙ ap (λ n. is_none (position_of n (names_of c.args.schema.now))) c.as_str.ensures.value ∙ is_none-position (same_name (string_bytes c.item-item.result.0)) (names_of c.args.schema.now))) in
    elim c.if-is_none.branch [
      | then-is_none w ↦ let e = ap {B = ℕ} (λ b. cond (not b) 0 1) w.if-is_none.true in rw w.count-is (omega (arith, at, e, c.loop-item.invariant.0), omega (arith, c.loop-item.invariant.1))
      | else-is_none w ↦ let e = ap {B = ℕ} (λ b. cond (not b) 0 1) w.if-is_none.false in rw w.count-is (omega (arith, at, e, c.loop-item.invariant.0), omega (arith, c.loop-item.invariant.1))
    ]
