use Rattle.std.proofs.Common.{◌+◌, ◌∙◌, ap, arith, drop, inl, map, string_bytes}
use Rattle.fq_notation.proofs.NamingLemmas.{before_all_append}
use Rattle.fq_notation.specs.Naming.{before_all}
use Rattle.fq_ops.specs.Noted.{right_noted}
use Rattle.fq_ops.proofs.JudgedFieldLemmas.{field-at}
use Rattle.fq_ops.proofs.NotedLemmas.{drop_more, right_noted_more}
use Rattle.fq_ops.proofs.noted.right_noted.Goals as goal
use Rattle.fq_ops.proofs.noted.right_noted.Goals.{then-not-contains+in-Ok+in_ok-after-in-Ok+in_ok-add-in-Ok, else-not-contains}

pub returns-in-Err-clause-refused : goal.returns-in-Err-clause-refused
returns-in-Err-clause-refused c =
    let e = drop_more c.args.right.now c.loop-place.place (c.name-name.result.now, c.kind-kind.result)
    (field-at c.args.right.now c.loop-place.place c.name-name.result.now c.kind-kind.result c.name-name.ensures c.kind-kind.ensures) in
    inl (grind (arith, e, before_all_append))

pub loop-place-preserved : goal.loop-place-preserved
loop-place-preserved c =
    let left = c.args.left.now in
    let right_named = c.args.right_named.now in
    let said = c.args.said.now in
    let on = map string_bytes c.args.on.now in
    let place = c.loop-place.place in
    let n = c.name-name.result.now in
    let k = c.kind-kind.result in
    let rest = drop (place + 1) c.args.right.now in
    let made = c.loop-place.made in
    let e = drop_more c.args.right.now place (n, k) (field-at c.args.right.now place n k c.name-name.ensures c.kind-kind.ensures) in
    let whole = c.loop-place.invariant ∙ ap (λ fs. before_all made (right_noted left right_named said on place fs)) e in
    elim c.if-not-contains.branch [
      | then-not-contains+in-Ok+in_ok-after-in-Ok+in_ok-add-in-Ok w ↦
          right_noted_more left right_named said on place (n, k) rest w.in-Ok.notation made (right_noted left right_named said on 0 c.args.right.now) whole (grind (arith)) (grind (arith))
          ∙ ap (λ xs. before_all xs (right_noted left right_named said on (place + 1) rest)) (grind (arith))
      | else-not-contains w ↦ grind (arith, e, before_all_append)
    ]
