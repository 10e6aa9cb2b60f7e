use Rattle.std.proofs.Common.{◌≡◌, ℕ, length, None}
use Rattle.std.specs.List.{slice_get}
use Rattle.fq_lanes.specs.Slots.{flat, held_in}
use Rattle.fq_lanes.proofs.file_state.FileState.new.Given as goal

abbrev pub invariant-loop : goal.invariant-loop
invariant-loop g l = (length l.slots.items ≡ l.counter) × ((i : ℕ) → flat (slice_get l.slots.items i) ≡ None) × (held_in l.slots.items ≡ 0)
