use Rattle.std.proofs.Common.{◌≡◌, ◌++◌, ◌∷◌, [], map, take, ap, arith, sym, ◌∙◌}
use Rattle.std.specs.Prelude.{slice_get, Some}
use Rattle.std.proofs.lemmas.List.{map-append}
use Rattle.fq_column.specs.Frame.{Field}
use Rattle.fq_notation.specs.declared.naming.Said.{Said}
use Rattle.fq_ops.proofs.JudgedFieldLemmas.{field-at, take-more}
use Rattle.fq_plan.specs.PlannedSteps.{right_said_in}
use Rattle.fq_plan.proofs.noted.following.Names.said_of_right.Goals as goal
use Rattle.fq_plan.proofs.noted.following.Names.said_of_right.Goals.{in-Whole+in_ok-after-in-Whole, in-Text}

pub loop-place-preserved : goal.loop-place-preserved
loop-place-preserved c =
    let told : Field → Said = right_said_in c.args.self.now c.args.left.now in
    let right = c.args.right.now in
    let place = c.loop-place.place in
    let here : Field = (c.name-name.result.now, c.kind-kind.result) in
    let at : slice_get right place ≡ Some here = field-at right place c.name-name.result.now c.kind-kind.result c.name-name.ensures c.kind-kind.ensures in
    let says : c.match-kind.says ≡ told here = elim c.match-kind.branch [
      | in-Whole+in_ok-after-in-Whole w ↦ grind (arith)
      | in-Text w ↦ grind (arith)
    ] in
    c.in_ok-push.ensures.items
    ∙ (λ i. c.loop-place.invariant i ++ says i ∷ [])
    ∙ sym (map-append told (take place right) (here ∷ []))
    ∙ ap (map told) (sym (take-more right place here at))
