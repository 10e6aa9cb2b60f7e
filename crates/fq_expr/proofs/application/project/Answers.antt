use Rattle.std.proofs.Common.{◌≡◌, ◌∙◌, ap, sym, Ok}
use Rattle.fq_column.specs.Frame.{Fields, Frame}
use Rattle.std.specs.Result.{is_ok}
use Rattle.fq_expr.specs.Expression.{select}
use Rattle.fq_expr.specs.Kinds.{step_schema}
use Rattle.fq_expr.specs.ExpressionData.{items_of}
use Rattle.fq_expr.specs.Outputs.{AreOutputs}
use Rattle.fq_expr.proofs.ItemLemmas.{length-items_of, length-item_names}
use Rattle.fq_expr.proofs.JudgementLemmas.{ok-is, judgement-ok, select-ok}
use Rattle.fq_expr.proofs.MadeLemmas.{made-outputs}
use Rattle.fq_expr.proofs.SelectionLemmas.{selected-kinds, selected-rows, outputs-lengths, made-item}
use Rattle.fq_expr.proofs.application.project.Goals as goal
use Rattle.fq_expr.proofs.application.project.Goals.{In-Ok, In_ok-outputs}

judged : (c : In-Ok) → step_schema c.args.batch.fields (select (items_of c.args.items.now)) ≡ Ok c.in-Ok.schema
judged c = ap (λ (f : Fields). step_schema f (select (items_of c.args.items.now))) (sym c.schema.ensures) ∙ judgement-ok (step_schema c.schema.result.now (select (items_of c.args.items.now))) c.in-Ok.schema c.in-Ok.ensures

-- the items' columns in the rows before the first that faults
outputs : (c : In_ok-outputs) → AreOutputs c.args.batch.fields (items_of c.args.items.now) c.args.batch.rows c.in_ok-outputs.outputs.columns.items c.in_ok-outputs.outputs.rows c.in_ok-outputs.outputs.item
outputs c =
    let made = c.in_ok-evaluated.evaluated in
    made-outputs c.args.batch (items_of c.args.items.now) made.columns.items made.rows c.in_ok-outputs.outputs.rows made.item c.in_ok-outputs.outputs.item c.in_ok-outputs.outputs.columns.items c.in_ok-evaluated.ensures c.in_ok-outputs.ensures.columns c.in_ok-outputs.ensures.rows

pub evaluate_items-requires-clause-kinds : goal.evaluate_items-requires-clause-kinds
evaluate_items-requires-clause-kinds c =
    let s = ok-is (step_schema c.args.batch.fields (select (items_of c.args.items.now))) c.requires in
    ap is_ok (select-ok c.args.batch.fields (items_of c.args.items.now) s.0 s.1).1.kinds

pub new-requires-clause-kinds : goal.new-requires-clause-kinds
new-requires-clause-kinds c = selected-kinds c.args.batch.fields (items_of c.args.items.now) c.args.batch.rows c.in_ok-outputs.outputs.columns.items c.in_ok-outputs.outputs.rows c.in_ok-outputs.outputs.item (outputs (goal.at.new-requires-clause-kinds c).In_ok-outputs)
    c.in-Ok.schema (judged (goal.at.new-requires-clause-kinds c).In-Ok) (length-item_names c.args.items.now ∙ sym (length-items_of c.args.items.now))

pub new-requires-clause-lengths : goal.new-requires-clause-lengths
new-requires-clause-lengths c = outputs-lengths c.args.batch.fields (items_of c.args.items.now) c.args.batch.rows c.in_ok-outputs.outputs.columns.items c.in_ok-outputs.outputs.rows c.in_ok-outputs.outputs.item (outputs (goal.at.new-requires-clause-lengths c).In_ok-outputs)

pub returns-clause-rows : goal.returns-clause-rows
returns-clause-rows c = let s = ok-is (step_schema c.args.batch.fields (select (items_of c.args.items.now))) c.requires in
    ap (λ (f : Frame). f.rows) c.new.ensures
    ∙ selected-rows c.args.batch.fields (items_of c.args.items.now) c.args.batch.rows c.in_ok-outputs.outputs.columns.items c.in_ok-outputs.outputs.rows c.in_ok-outputs.outputs.item (outputs (goal.at.returns-clause-rows c).In_ok-outputs)
    c.in-Ok.schema (judged (goal.at.returns-clause-rows c).In-Ok) (length-item_names c.args.items.now ∙ sym (length-items_of c.args.items.now))
    (select-ok c.args.batch.fields (items_of c.args.items.now) s.0 s.1).1.some

pub returns-clause-fault : goal.returns-clause-fault
returns-clause-fault c = made-item c.args.batch.fields (items_of c.args.items.now) c.args.batch.rows c.in_ok-outputs.outputs.columns.items c.in_ok-outputs.outputs.rows c.in_ok-outputs.outputs.item (outputs (goal.at.returns-clause-fault c).In_ok-outputs) (λ values row. values)
