use Rattle.std.proofs.Common.{◌∙◌, ap, get_or, length, arith, inl, inr}
use Rattle.std.proofs.lemmas.Result.{err_from_is_err_and}
use Rattle.serde_json.specs.View.{view}
use Rattle.fq_language.proofs.ReadingLemmas.{items_as-step, items_as-none}
use Rattle.fq_language.proofs.reading.lists.VecSpelled.read.Goals as goal

pub loop-item-preserved : goal.loop-item-preserved
loop-item-preserved g c =
    rw c.in_ok-push.ensures.items
    (items_as-step view (g.T.Spelled.spelled_by c.args.version) g.T.Spelled.part_of c.deref-item-items.result.now c.loop-item.item-index c.item-item.result c.loop-item.parts.items c.in_ok-part.part c.loop-item-test.true c.item-item.is c.loop-item.invariant c.in_ok-part.ensures)

pub returns-in_err-part : goal.returns-in_err-part
returns-in_err-part g c =
    let exit = err_from_is_err_and c.from_residual-in_err-part.result c.from_residual-in_err-part.ensures.1 in
    rw (exit.1, exit.2) (elim c.in_err-part.ensures [
      | inl none ↦ inl (
          rw (← c.in-Some.ensures)
          (items_as-none view (g.T.Spelled.spelled_by c.args.version) c.in-Some.items.now.items c.loop-item.item-index c.item-item.result
          (omega (arith, c.loop-item-test.true, ap length c.deref-item-items.ensures.value)) (c.item-item.is ∙ ap (λ vs. get_or vs c.loop-item.item-index c.item-item.result) c.deref-item-items.ensures.value) none))
      | inr memory ↦ inr memory
    ])
