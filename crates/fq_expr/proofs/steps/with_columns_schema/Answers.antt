use Rattle.std.proofs.Common.{◌≡◌, ◌∙◌, ap, not, sym, subst, length, inl, Ok}
use Rattle.std.proofs.lemmas.Result.{err_from_is_err_and}
use Rattle.fq_column.specs.Frame.{Fields, put_all}
use Rattle.fq_column.specs.Schema.{fields_of}
use Rattle.fq_expr.specs.Expression.{with_columns}
use Rattle.fq_expr.specs.ExpressionData.{items_of}
use Rattle.fq_expr.specs.Kinds.{item_names, step_schema}
use Rattle.fq_expr.proofs.ItemLemmas.{length-items_of, length-item_names}
use Rattle.fq_expr.proofs.OutputLemmas.{length-all_kinds}
use Rattle.fq_expr.proofs.JudgementLemmas.{Adds, adds-room, refused, settled-is, with_columns-item, with_columns-judged, with_columns-ok}
use Rattle.fq_expr.proofs.steps.with_columns_schema.Goals as goal
use Rattle.fq_expr.proofs.steps.with_columns_schema.Goals.{In_ok-kinds}

-- what the check knows, of the kinds that were worked out
adds : (c : In_ok-kinds) → (after : Fields) × Adds c.args.schema.now (items_of c.args.items.now) after c.in_ok-kinds.kinds.items
adds c =
    let settled = settled-is (step_schema c.args.schema.now (with_columns (items_of c.args.items.now))) c.requires in
    let known = with_columns-ok c.args.schema.now (items_of c.args.items.now) settled.0 settled.1 in
    let both : Ok known.0 ≡ Ok c.in_ok-kinds.kinds.items = sym known.1.kinds ∙ c.in_ok-kinds.ensures.kinds in
    let same : known.0 ≡ c.in_ok-kinds.kinds.items = cc in
    (settled.0, subst (λ ks. Adds c.args.schema.now (items_of c.args.items.now) settled.0 ks) same known.1)

pub returns-in_err-kinds : goal.returns-in_err-kinds
returns-in_err-kinds c = let p = err_from_is_err_and c.from_residual.result c.from_residual.ensures.1 in rw (p.1, p.2) (refused (step_schema c.args.schema.now (with_columns (items_of c.args.items.now))) c.in_err-kinds.field-0.0 (with_columns-item c.args.schema.now (items_of c.args.items.now) c.in_err-kinds.field-0.0 c.in_err-kinds.ensures.refused))

pub with_fields-requires-clause-kinds : goal.with_fields-requires-clause-kinds
with_fields-requires-clause-kinds c = ap length c.as_slice.ensures.value ∙ length-all_kinds c.args.schema.now (items_of c.args.items.now) c.in_ok-kinds.kinds.items c.in_ok-kinds.ensures.kinds ∙ length-items_of c.args.items.now

pub with_fields-requires-clause-room : goal.with_fields-requires-clause-room
with_fields-requires-clause-room c =
    let known = adds (goal.at.with_fields-requires-clause-room c).In_ok-kinds in
    rw c.as_slice.ensures.value (adds-room c.args.schema.now (items_of c.args.items.now) known.0 c.in_ok-kinds.kinds.items known.1 (length-item_names c.args.items.now ∙ sym (length-items_of c.args.items.now)))

pub returns : goal.returns
returns c =
    let known = adds (goal.at.returns c).In_ok-kinds in
    inl (ap Ok (c.in_ok-with_fields.ensures ∙ ap (λ ks. put_all c.args.schema.now (fields_of (item_names (items_of c.args.items.now)) ks)) c.as_slice.ensures.value)
    ∙ sym (with_columns-judged c.args.schema.now (items_of c.args.items.now) c.in_ok-kinds.kinds.items c.in_ok-kinds.ensures.kinds known.1.room (ap not known.1.distinct)))
