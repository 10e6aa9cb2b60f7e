use Rattle.std.proofs.Common.{◌≡◌, Some, None, ◌%◌, refl, ap, sym, ◌∙◌, ◌≤◌, ◌<◌, ◌+◌, arith, ◌⊎◌, subst, set, length}
use Rattle.std.specs.List.{slice_get}
use Rattle.std.proofs.lemmas.Option.{slice_get_read}
use Rattle.fq_lanes.specs.Slots.{found_in, held_in}
use Rattle.fq_lanes.proofs.EventLemmas.{none_of}
use Rattle.fq_lanes.proofs.FileLemmas.{keeps_offer, top_max}
use Rattle.fq_lanes.proofs.SlotLemmas.{put_slot, free_slot, within_window, held_put, slot_below, not_far}
use Rattle.fq_lanes.proofs.file_state.FileState.offer.Goals as goal
use Rattle.fq_lanes.proofs.file_state.FileState.offer.Goals.{in_default-via-in-None-1, in_default-via-in-Some+else-items-serial}
use Rattle.fq_lanes.specs.declared.file_state.TheConstants.{SLOTS}

pub returns-2-clause-follows : goal.returns-2-clause-follows
returns-2-clause-follows g c es f k =
    let below = slot_below c.args.serial in
    let eight : length c.args.self.now.slots.items ≡ SLOTS = c.args.self.now.whole in
    let near : c.args.serial < c.args.self.now.taken + SLOTS = not_far c.args.self.now.taken c.args.serial (sym c.is_far.ensures ∙ c.if-is_far.false) in
    let empty : c.index.result.now ≡ None = none_of c.index.result.now (sym c.is_some.ensures ∙ c.if-is_some.false) in
    let slot : slice_get c.args.self.now.slots.items (c.args.serial % SLOTS) ≡ Some None =
    slice_get_read c.args.self.now.slots.items (length c.args.self.now.slots.items) (c.args.serial % SLOTS) c.index.result.now refl (omega (arith, below, eight)) c.index.ensures ∙ ap Some empty in
    let out = keeps_offer (found_in c.args.self.now.slots.items c.args.self.now.taken) (found_in (set c.args.self.now.slots.items (c.args.serial % SLOTS) (Some c.args.item)) c.args.self.now.taken)
    (held_in c.args.self.now.slots.items) (held_in (set c.args.self.now.slots.items (c.args.serial % SLOTS) (Some c.args.item)))
    c.args.self.now.taken c.args.self.now.top c.max-self.result c.args.self.now.closed es f c.args.serial c.args.item k
    (λ n e le. elim c.in_default.branch [ in_default-via-in-None-1 w ↦ grind arith | in_default-via-in-Some+else-items-serial w ↦ grind arith ])
    (omega arith)
    (free_slot c.args.self.now.slots.items c.args.self.now.taken c.args.serial near slot)
    (λ r le. put_slot c.args.self.now.slots.items c.args.self.now.taken c.args.serial r c.args.item eight (omega arith) near le)
    (held_put c.args.self.now.slots.items (c.args.serial % SLOTS) c.args.item slot)
    (subst (λ top. ((top ≡ c.args.self.now.top) × (c.args.serial < c.args.self.now.top)) ⊎ ((top ≡ c.args.serial + 1) × (c.args.self.now.top ≤ c.args.serial))) (sym c.max-self.ensures) (top_max c.args.self.now.top c.args.serial)) in
    (within_window es f c.args.serial c.args.self.now.taken out.0 near, out.1)
