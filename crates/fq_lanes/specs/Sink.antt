-- What a sink's files say of the events that were accepted and of how many items were handed out.
use Rattle.std.specs.Prelude.{◌≡◌, ◌+◌, ℕ, zero, suc, List, [], ◌∷◌, Bool, true, length}
use Rattle.fq_lanes.specs.Due.{is_closed_at}
use Rattle.fq_lanes.specs.Refusals.{Accepted}
use Rattle.fq_lanes.specs.FileState.{FileFollows}
use Rattle.fq_lanes.specs.Slots.{held_in}
use Rattle.fq_lanes.specs.declared.events.Event.{Event}
use Rattle.fq_lanes.specs.declared.file_state.FileState.{FileState}
use Rattle.fq_lanes.specs.declared.sinks.Sink.{Sink}

module _ {T : Type 0} where
  -- how many files it has
  abbrev pub file_count : Sink T → ℕ
  file_count s = length s.files.items

  -- how many items were handed out
  abbrev pub taken_by : List (FileState T) → ℕ
  taken_by [] = 0
  taken_by (x ∷ xs) = x.taken + taken_by xs

  -- how many items are held
  abbrev pub waiting_of : List (FileState T) → ℕ
  waiting_of [] = 0
  waiting_of (x ∷ xs) = held_in x.slots.items + waiting_of xs

  -- closed, with each item offered
  abbrev pub is_finished_file : FileState T → Bool
  is_finished_file x = is_closed_at x.closed (x.taken + held_in x.slots.items)

  -- nothing of these files, from number f on, was handed out
  abbrev pub Fresh : List (FileState T) → List (Event T) → ℕ → Type 0
  Fresh [] es f = Unit {0}
  Fresh (x ∷ xs) es f = FileFollows x es f × (x.taken ≡ 0) × Fresh xs es (suc f)

  -- of these files, from number f on, the first are handed out whole, and nothing of those after the next one
  abbrev pub Staged : ℕ → List (FileState T) → List (Event T) → ℕ → Type 0
  Staged at [] es f = at ≡ 0
  Staged zero (x ∷ xs) es f = FileFollows x es f × Fresh xs es (suc f)
  Staged (suc at) (x ∷ xs) es f = FileFollows x es f × (is_closed_at x.closed x.taken ≡ true) × Staged at xs es (suc f)

  -- these events were accepted, and so many items handed out: by the files, and how many of them were handed out whole
  pub record SinkFacts (files : List (FileState T)) (at : ℕ) (es : List (Event T)) (t : ℕ) : Type 0 where
    pub accepted : Accepted (length files) es
    pub staged : Staged at files es 0
    pub total : t ≡ taken_by files

  -- the sink has accepted these events, in this order, and handed out so many items
  abbrev pub HasAccepted : Sink T → List (Event T) → ℕ → Type 0
  HasAccepted s es t = SinkFacts s.files.items s.at es t

  -- how many items were accepted and not handed out
  abbrev pub waiting_in : Sink T → ℕ
  waiting_in s = waiting_of s.files.items
