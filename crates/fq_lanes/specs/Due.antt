-- Which items a sink may hand out, by the events that it accepted: of each file in turn the items from serial 0 on, as far as
-- they were offered, and the next file's only if this file is closed and complete. It does not depend on the order of the events.
use Rattle.std.specs.Prelude.{◌≡◌, ◌==◌, ◌&&◌, ℕ, zero, suc, ◌+◌, ◌≤◌, List, [], ◌∷◌, ◌++◌, length, Option, Some, None, if◌then◌else◌, Bool, true, false}
use Rattle.fq_lanes.specs.declared.events.Event.{Event}
use Rattle.fq_lanes.specs.declared.events.Event.TheVariants.{Offer, Close}

-- whether the close is at n
abbrev pub is_closed_at : Option ℕ → ℕ → Bool
is_closed_at None n = false
is_closed_at (Some m) n = m == n

module _ {T : Type 0} where
  -- the accepted offer of f and s
  abbrev pub offer_at : List (Event T) → ℕ → ℕ → Option T
  offer_at [] f s = None
  offer_at (Offer g r x ∷ es) f s = if (g == f) && (r == s) then Some x else offer_at es f s
  offer_at (Close g n ∷ es) f s = offer_at es f s

  -- the number at which f was closed
  abbrev pub close_at : List (Event T) → ℕ → Option ℕ
  close_at [] f = None
  close_at (Offer g r x ∷ es) f = close_at es f
  close_at (Close g n ∷ es) f = if g == f then Some n else close_at es f

  -- how many items of f were offered
  abbrev pub offer_count : List (Event T) → ℕ → ℕ
  offer_count [] f = 0
  offer_count (Offer g r x ∷ es) f = (if g == f then 1 else 0) + offer_count es f
  offer_count (Close g n ∷ es) f = offer_count es f

  -- an item, if there is one, and then the rest
  abbrev pub ready_step : Option T → ℕ → ℕ → List (ℕ × ℕ × T) → List (ℕ × ℕ × T)
  ready_step None f s rest = []
  ready_step (Some x) f s rest = (f, s, x) ∷ rest

  -- the offers of f from s on, while there is one, at most so many
  abbrev pub ready_from : List (Event T) → ℕ → ℕ → ℕ → List (ℕ × ℕ × T)
  ready_from es f s zero = []
  ready_from es f s (suc most) = ready_step (offer_at es f s) f s (ready_from es f (suc s) most)

  -- f's items from serial 0 on, up to the first that was not offered
  abbrev pub ready : List (Event T) → ℕ → List (ℕ × ℕ × T)
  ready es f = ready_from es f zero (length es)

  -- f is closed at the number of items that are ready, so each of its items was offered
  abbrev pub is_complete : List (Event T) → ℕ → Bool
  is_complete es f = is_closed_at (close_at es f) (length (ready es f))

  -- of so many files from f on
  abbrev pub due_from : List (Event T) → ℕ → ℕ → List (ℕ × ℕ × T)
  due_from es f zero = []
  due_from es f (suc files) = ready es f ++ (if is_complete es f then due_from es (suc f) files else [])

  -- the items that may be handed out, by file, then serial
  abbrev pub due : List (Event T) → ℕ → List (ℕ × ℕ × T)
  due es files = due_from es zero files

  -- each file is closed at n and has n offers
  abbrev pub all_finished : List (Event T) → ℕ → ℕ → Bool
  all_finished es f zero = true
  all_finished es f (suc files) = is_closed_at (close_at es f) (offer_count es f) && all_finished es (suc f) files

  -- how many of the first t items are f's
  abbrev pub handed_count : ℕ → ℕ → List (ℕ × ℕ × T) → ℕ
  handed_count f zero qs = 0
  handed_count f (suc t) [] = 0
  handed_count f (suc t) (q ∷ qs) = (if q.0 == f then 1 else 0) + handed_count f t qs

  -- how many of all items that may be handed out are f's
  abbrev pub due_count : List (Event T) → ℕ → ℕ → ℕ
  due_count es files f = handed_count f (length (due es files)) (due es files)

  -- what was found is still found
  abbrev pub Extends : List (Event T) → List (Event T) → Type 0
  Extends old new =
      ((f s : ℕ) (x : T) → offer_at old f s ≡ Some x → offer_at new f s ≡ Some x)
      × ((f n : ℕ) → close_at old f ≡ Some n → close_at new f ≡ Some n)
      × (length old ≤ length new)

  -- no item at or past its file's close
  abbrev pub ClosesHold : List (Event T) → Type 0
  ClosesHold es = (f n s : ℕ) → close_at es f ≡ Some n → n ≤ s → offer_at es f s ≡ None
