use Rattle.std.proofs.Common.{◌≡◌, ◌++◌, ◌∷◌, ap, arith, [], ◌∙◌, cond, true, not, None, refl}
use Rattle.std.proofs.lemmas.Grind.{common_steps}
use Rattle.std.specs.Result.{is_ok}
use Rattle.std.specs.List.{slice_get}
use Rattle.fq_lanes.specs.Slots.{flat}
use Rattle.fq_lanes.proofs.SlotLemmas.{push_empty, empty_follows}
use Rattle.fq_lanes.proofs.file_state.FileState.new.Goals as goal

pub loop-preserved : goal.loop-preserved
loop-preserved g c =
    let fine : is_ok c.push.result ≡ true = c.is_err.ensures.negation ∙ ap not c.if-is_err.false in
    let items : c.push.new.self.items ≡ c.loop.slots.items ++ None ∷ [] =
    c.push.ensures.items ∙ ap (λ b. cond b (c.loop.slots.items ++ None ∷ []) c.loop.slots.items) fine in
    (grind (arith, common_steps, items), λ i. ap (λ l. flat (slice_get l i)) items ∙ push_empty c.loop.slots.items i (c.loop.invariant.1 i), grind (arith, common_steps, items))

pub returns : goal.returns
returns g c = (λ f. empty_follows c.loop.slots.items f c.loop.invariant.1 c.loop.invariant.2, refl)
