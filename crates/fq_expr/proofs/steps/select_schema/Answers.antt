use Rattle.std.proofs.Common.{◌<◌, ◌∙◌, ap, sym, arith, length, map, string_bytes}
use Rattle.std.proofs.lemmas.List.{length-map}
use Rattle.std.proofs.lemmas.Result.{err_from_is_err_and}
use Rattle.std.proofs.lemmas.Bool.Decides.{nat_tests}
use Rattle.fq_expr.specs.Expression.{select}
use Rattle.fq_expr.specs.ExpressionData.{items_of}
use Rattle.fq_expr.specs.Kinds.{step_schema}
use Rattle.fq_expr.proofs.ItemLemmas.{length-items_of, length-item_names}
use Rattle.fq_expr.proofs.OutputLemmas.{length-all_kinds}
use Rattle.fq_expr.proofs.JudgementLemmas.{refused, select-item, select-judged}
use Rattle.fq_expr.proofs.steps.select_schema.Goals as goal
use Rattle.fq_expr.proofs.steps.select_schema.Goals.{Else-is_empty}

some_item : (c : Else-is_empty) → 0 < length (items_of c.args.items.now)
some_item c = let e = c.is_empty.ensures in let f = c.if-is_empty.false in grind (arith, nat_tests, length-items_of c.args.items.now)

pub returns-in_err-kinds : goal.returns-in_err-kinds
returns-in_err-kinds c = let p = err_from_is_err_and c.from_residual.result c.from_residual.ensures.1 in rw (p.1, p.2) (refused (step_schema c.args.schema.now (select (items_of c.args.items.now))) c.in_err-kinds.field-0.0 (select-item c.args.schema.now (items_of c.args.items.now) (some_item (goal.at.returns-in_err-kinds c).Else-is_empty) c.in_err-kinds.field-0.0 c.in_err-kinds.ensures.refused))

pub new-requires : goal.new-requires
new-requires c = omega (
  arith,
  length-all_kinds c.args.schema.now (items_of c.args.items.now) c.in_ok-kinds.kinds.items c.in_ok-kinds.ensures.kinds,
  length-items_of c.args.items.now,
  length-item_names c.args.items.now,
  ap length c.in_ok-names.ensures,
  length-map c.in_ok-names.names.items string_bytes,
)

pub returns : goal.returns
returns c = select-judged c.args.schema.now (items_of c.args.items.now) (map string_bytes c.in_ok-names.names.items) c.in_ok-kinds.kinds.items c.new.result
    (some_item (goal.at.returns c).Else-is_empty) c.in_ok-names.ensures (length-item_names c.args.items.now ∙ sym (length-items_of c.args.items.now)) c.in_ok-kinds.ensures.kinds c.new.ensures.ok c.new.ensures.refused
