-- The window of a file: which serials the sink has a slot for, once all that is due was handed out.
use Rattle.std.specs.Prelude.{◌<◌, ◌+◌, ℕ, List, [], ◌∷◌, ◌++◌}
use Rattle.fq_lanes.specs.Due.{due_count}
use Rattle.fq_lanes.specs.declared.events.Event.{Event}
use Rattle.fq_lanes.specs.declared.events.Event.TheVariants.{Offer, Close}
use Rattle.fq_lanes.specs.declared.file_state.TheConstants.{SLOTS}

module _ {O : Type 0} where
  -- the serial is less than the number of slots past its file's items that are due
  abbrev pub IsNear : List (Event O) → ℕ → ℕ → ℕ → Type 0
  IsNear events files f s = s < due_count events files f + SLOTS

  -- each of these files and serials is so
  abbrev pub AreNear : List (Event O) → ℕ → List (ℕ × ℕ) → Type 0
  AreNear events files [] = Unit {0}
  AreNear events files (p ∷ ps) = IsNear events files p.0 p.1 × AreNear events files ps

  -- each offer is so after the events before it
  abbrev pub InWindow : ℕ → List (Event O) → List (Event O) → Type 0
  InWindow files before [] = Unit {0}
  InWindow files before (Offer f s o ∷ es) = IsNear before files f s × InWindow files (before ++ Offer f s o ∷ []) es
  InWindow files before (Close f n ∷ es) = InWindow files (before ++ Close f n ∷ []) es
