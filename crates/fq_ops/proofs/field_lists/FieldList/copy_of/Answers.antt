use Rattle.std.proofs.Common.{◌++◌, ◌∷◌, [], sym, ap, ◌∙◌}
use Rattle.fq_column.specs.Frame.{Fields}
use Rattle.fq_ops.proofs.JudgedFieldLemmas.{field-at, take-more}
use Rattle.fq_ops.proofs.field_lists.FieldList.copy_of.Goals as goal

pub loop-i-preserved : goal.loop-i-preserved
loop-i-preserved c =
    let fs = c.args.schema.now in
    c.in_ok-push.ensures.ok
    ∙ ap (λ n. c.loop-i.fields ++ (n, c.kind.result) ∷ []) c.in_ok-copy_name.ensures.ok
    ∙ ap (λ (xs : Fields). xs ++ (c.name.result.now, c.kind.result) ∷ []) c.loop-i.invariant
    ∙ sym (take-more fs c.loop-i.i (c.name.result.now, c.kind.result) (field-at fs c.loop-i.i c.name.result.now c.kind.result c.name.ensures c.kind.ensures))
