-- What one file's items say of the events that were accepted.
use Rattle.std.specs.Prelude.{ℕ, List}
use Rattle.fq_lanes.specs.FileFacts.{FileFacts}
use Rattle.fq_lanes.specs.Slots.{found_in, held_in}
use Rattle.fq_lanes.specs.declared.events.Event.{Event}
use Rattle.fq_lanes.specs.declared.file_state.FileState.{FileState}

module _ {T : Type 0} where
  -- the state is that of file f after these events
  abbrev pub FileFollows : FileState T → List (Event T) → ℕ → Type 0
  FileFollows x es f = FileFacts (found_in x.slots.items x.taken) (held_in x.slots.items) x.taken x.top x.closed es f
