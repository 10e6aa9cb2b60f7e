use Rattle.std.proofs.Common.{◌≡◌, ◌%◌, ◌+◌, Some, None, arith, refl, ap, sym, ◌∙◌, set, length, subst}
use Rattle.std.specs.List.{slice_get}
use Rattle.std.proofs.lemmas.Option.{slice_get_read}
use Rattle.std.proofs.lemmas.List.{set-get_or}
use Rattle.fq_lanes.specs.Slots.{found_in, held_in}
use Rattle.fq_lanes.specs.FileFacts.{FileFacts}
use Rattle.fq_lanes.proofs.FileLemmas.{none_past_top}
use Rattle.fq_lanes.proofs.SlotLemmas.{take_slot, free_slot, full_slot, keeps_next, slot_below, held_take}
use Rattle.fq_lanes.proofs.file_state.FileState.next.Goals as goal
use Rattle.fq_lanes.specs.declared.file_state.TheConstants.{SLOTS}

pub returns-then-self-clause-follows : goal.returns-then-self-clause-follows
returns-then-self-clause-follows g c es f k =
    (k, none_past_top (found_in c.args.self.now.slots.items c.args.self.now.taken) (held_in c.args.self.now.slots.items) c.args.self.now.taken c.args.self.now.top c.args.self.now.closed es f c.args.self.now.taken k (omega arith))

pub returns-in-Some-clause-follows : goal.returns-in-Some-clause-follows
returns-in-Some-clause-follows g c es f k =
    let below = slot_below c.args.self.now.taken in
    let eight : length c.args.self.now.slots.items ≡ SLOTS = c.args.self.now.whole in
    let slot : slice_get c.args.self.now.slots.items (c.args.self.now.taken % SLOTS) ≡ Some (Some c.in-Some.item) =
    slice_get_read c.args.self.now.slots.items (length c.args.self.now.slots.items) (c.args.self.now.taken % SLOTS) c.index_mut-slot.result.now refl (omega (arith, below, eight)) c.index_mut-slot.ensures.value
    ∙ ap Some (sym c.take.ensures.value ∙ c.in-Some.is) in
    let out = keeps_next (found_in c.args.self.now.slots.items c.args.self.now.taken) (found_in (set c.args.self.now.slots.items (c.args.self.now.taken % SLOTS) None) (c.args.self.now.taken + 1))
    (held_in c.args.self.now.slots.items) (held_in (set c.args.self.now.slots.items (c.args.self.now.taken % SLOTS) None)) c.args.self.now.taken c.args.self.now.top c.args.self.now.closed es f c.in-Some.item k
    (full_slot c.args.self.now.slots.items c.args.self.now.taken c.args.self.now.taken c.in-Some.item (omega arith) slot)
    (λ r le. take_slot c.args.self.now.slots.items c.args.self.now.taken r eight le)
    (held_take c.args.self.now.slots.items (c.args.self.now.taken % SLOTS) c.in-Some.item slot) in (
      subst (λ o. FileFacts (found_in (set c.args.self.now.slots.items (c.args.self.now.taken % SLOTS) o) (c.args.self.now.taken + 1)) (held_in (set c.args.self.now.slots.items (c.args.self.now.taken % SLOTS) o))
          (c.args.self.now.taken + 1) c.args.self.now.top c.args.self.now.closed es f) (sym c.take.ensures.after) out.0,
      (out.1, out.2),
    )

pub returns-in-None-clause-follows : goal.returns-in-None-clause-follows
returns-in-None-clause-follows g c es f k =
    let below = slot_below c.args.self.now.taken in
    let eight : length c.args.self.now.slots.items ≡ SLOTS = c.args.self.now.whole in
    let empty : c.index_mut-slot.result.now ≡ None = sym c.take.ensures.value ∙ c.in-None.is in
    let slot : slice_get c.args.self.now.slots.items (c.args.self.now.taken % SLOTS) ≡ Some None =
    slice_get_read c.args.self.now.slots.items (length c.args.self.now.slots.items) (c.args.self.now.taken % SLOTS) c.index_mut-slot.result.now refl (omega (arith, below, eight)) c.index_mut-slot.ensures.value ∙ ap Some empty in
    let same : set c.args.self.now.slots.items (c.args.self.now.taken % SLOTS) c.take.new.self ≡ c.args.self.now.slots.items =
    ap (set c.args.self.now.slots.items (c.args.self.now.taken % SLOTS)) (c.take.ensures.after ∙ sym empty ∙ c.index_mut-slot.ensures.value) ∙ set-get_or c.args.self.now.slots.items (c.args.self.now.taken % SLOTS) c.index_mut-slot.result.now in (
      subst (λ l. FileFacts (found_in l c.args.self.now.taken) (held_in l) c.args.self.now.taken c.args.self.now.top c.args.self.now.closed es f) (sym same) k,
      k.holding c.args.self.now.taken (omega arith) ∙ free_slot c.args.self.now.slots.items c.args.self.now.taken c.args.self.now.taken (omega arith) slot,
    )
