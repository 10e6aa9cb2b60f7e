use Rattle.std.proofs.Common.{◌++◌, ◌∷◌, [], Bool, not, map, cond, string_bytes, take, sym, ap, ◌∙◌, append-nil, append_assoc}
use Rattle.fq_column.specs.Frame.{Field, Fields}
use Rattle.fq_ops.specs.Join.{renamed, right_name}
use Rattle.fq_ops.proofs.JudgedFieldLemmas.{field-at}
use Rattle.fq_ops.proofs.RefusalLemmas.{renamed-more}
use Rattle.fq_ops.proofs.output_schemas.add_right.Goals as goal
use Rattle.fq_ops.proofs.output_schemas.add_right.Goals.{then-not-contains+in_ok-right_name_of+in_ok-push, else-not-contains}

pub loop-i-preserved : goal.loop-i-preserved
loop-i-preserved c =
    let left = c.args.left.now in
    let right = c.args.right.now in
    let on = map string_bytes c.args.on.now in
    let n = c.name-name.result.now in
    let i = c.loop-i.i in
    let old = c.args.fields.now in
    let rename : Field → Field = λ f. (right_name left f.0, f.1) in
    let k = c.kind-kind.result in
    let more = renamed-more left on right i n k (field-at right i n k c.name-name.ensures c.kind-kind.ensures) in
    let ending : Bool → Fields = λ b. renamed left on (take i right) ++ map rename (cond (not b) ((n, k) ∷ []) []) in
    elim c.if-not-contains.branch [
      | then-not-contains+in_ok-right_name_of+in_ok-push w ↦
          w.fields-is ∙ w.in_ok-push.ensures.ok
          ∙ ap (λ m. c.loop-i.fields ++ (m, k) ∷ []) w.in_ok-right_name_of.ensures
          ∙ ap (λ (fs : Fields). fs ++ (right_name left n, k) ∷ []) c.loop-i.invariant
          ∙ append_assoc old (renamed left on (take i right)) ((right_name left n, k) ∷ [])
          ∙ ap (λ fs. old ++ fs) (sym (more ∙ ap ending (sym w.if-not-contains.ensures)))
      | else-not-contains w ↦
          w.fields-is ∙ c.loop-i.invariant
          ∙ ap (λ fs. old ++ fs) (sym (more ∙ ap ending (sym w.if-not-contains.ensures) ∙ append-nil (renamed left on (take i right))))
    ]
