-- The slots in which a file's items wait: serial s in slot s mod SLOTS.
use Rattle.std.specs.Prelude.{ℕ, List, Option, Some, None, ◌+◌, ◌%◌, cond, nat_lt, count_by}
use Rattle.std.specs.Option.{is_some}
use Rattle.std.specs.List.{slice_get}
use Rattle.fq_lanes.specs.declared.file_state.TheConstants.{SLOTS}

module _ {T : Type 0} where
  -- what a slot holds, if there is such a slot
  abbrev pub flat : Option (Option T) → Option T
  flat None = None
  flat (Some o) = o

  -- what is held at a serial, after so many items were handed out
  abbrev pub found_in : List (Option T) → ℕ → ℕ → Option T
  found_in slots taken s = cond (nat_lt s (taken + SLOTS)) (flat (slice_get slots (s % SLOTS))) None

  -- how many items are held
  abbrev pub held_in : List (Option T) → ℕ
  held_in slots = count_by (λ o. is_some o) slots
