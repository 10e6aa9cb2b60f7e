-- When a sink refuses an event.
use Rattle.std.specs.Prelude.{◌≡◌, ◌==◌, ◌&&◌, ◌||◌, ◌+◌, ◌++◌, ℕ, suc, List, [], ◌∷◌, length, Option, Some, None, Bool, false, if◌then◌else◌, nat_lt, nat_le}
use Rattle.std.specs.Option.{is_some}
use Rattle.fq_lanes.specs.Due.{offer_at, close_at, due, handed_count}
use Rattle.fq_lanes.specs.declared.events.Why.{Why}
use Rattle.fq_lanes.specs.declared.events.Why.TheVariants.{Stranger, Closed, Double, Far, Short}
use Rattle.fq_lanes.specs.declared.events.Event.{Event}
use Rattle.fq_lanes.specs.declared.events.Refused.{Refused}
use Rattle.fq_lanes.specs.declared.events.Event.TheVariants.{Offer, Close}
use Rattle.fq_lanes.specs.declared.file_state.TheConstants.{SLOTS}

-- closed at s or before
abbrev pub is_past : Option ℕ → ℕ → Bool
is_past None s = false
is_past (Some n) s = nat_le n s

module _ {T : Type 0} where
  -- an offer of f with serial n or more
  abbrev pub offers_from : List (Event T) → ℕ → ℕ → Bool
  offers_from [] f n = false
  offers_from (Offer g r x ∷ es) f n = ((g == f) && nat_le n r) || offers_from es f n
  offers_from (Close g m ∷ es) f n = offers_from es f n

  -- within a file: the first refusal of an offer but Far, and of a close
  abbrev pub offer_refusal : List (Event T) → ℕ → ℕ → Option Why
  offer_refusal es f s = if is_past (close_at es f) s then Some Closed else (if is_some (offer_at es f s) then Some Double else None)

  abbrev pub close_refusal : List (Event T) → ℕ → ℕ → Option Why
  close_refusal es f n = if is_some (close_at es f) then Some Closed else (if offers_from es f n then Some Short else None)

  -- the first refusal of an offer, after so many of its file's items were handed out
  abbrev pub offer_refusal_at : List (Event T) → ℕ → ℕ → ℕ → Option Why
  offer_refusal_at es f s taken =
      if is_past (close_at es f) s then Some Closed else (if is_some (offer_at es f s) then Some Double else (if nat_le (taken + SLOTS) s then Some Far else None))

  -- the first refusal but Far of either event
  abbrev pub event_refusal : List (Event T) → Event T → Option Why
  event_refusal es (Offer f s x) = offer_refusal es f s
  event_refusal es (Close f n) = close_refusal es f n

  -- the file that an event is of
  abbrev pub file_of : Event T → ℕ
  file_of (Offer f s x) = f
  file_of (Close f n) = f

  -- the first refusal but Far of an event, if there are so many files and these events were accepted
  abbrev pub refusal : ℕ → List (Event T) → Event T → Option Why
  refusal files es e = if nat_lt (file_of e) files then event_refusal es e else Some Stranger

  -- the first refusal of either event, after so many items were handed out
  abbrev pub event_refusal_at : ℕ → List (Event T) → ℕ → Event T → Option Why
  event_refusal_at files es t (Offer f s x) = offer_refusal_at es f s (handed_count f t (due es files))
  event_refusal_at files es t (Close f n) = close_refusal es f n

  -- the first refusal of an event, if there are so many files, these events were accepted and so many items handed out
  abbrev pub refusal_at : ℕ → List (Event T) → ℕ → Event T → Option Why
  refusal_at files es t e = if nat_lt (file_of e) files then event_refusal_at files es t e else Some Stranger

  -- the same once all that is due was handed out
  abbrev pub refusal_now : ℕ → List (Event T) → Event T → Option Why
  refusal_now files es e = refusal_at files es (length (due es files)) e

  -- no reason but Far refuses any of these events, each after those before it
  abbrev pub AcceptedAfter : ℕ → List (Event T) → List (Event T) → Type 0
  AcceptedAfter files before [] = Unit {0}
  AcceptedAfter files before (e ∷ es) = (refusal files before e ≡ None) × AcceptedAfter files (before ++ e ∷ []) es

  -- so on a fresh sink
  abbrev pub Accepted : ℕ → List (Event T) → Type 0
  Accepted files es = AcceptedAfter files [] es

  -- the accepted events after an event, by its refusal
  abbrev pub after : Option Why → List (Event T) → Event T → List (Event T)
  after None es e = es ++ e ∷ []
  after (Some why) es e = es

  -- the events accepted of a list, after those before it, if each time all that is due was handed out
  abbrev pub accepted_of : ℕ → List (Event T) → List (Event T) → List (Event T)
  accepted_of files before [] = before
  accepted_of files before (e ∷ es) = accepted_of files (after (refusal_now files before e) before e) es

  -- the item of an offer
  abbrev pub item_of : Event T → Option T
  item_of (Offer f s x) = Some x
  item_of (Close f n) = None

  -- an event with its number and reason, if it was refused
  abbrev pub refused_one : Option Why → ℕ → Event T → List (Refused T)
  refused_one None number e = []
  refused_one (Some rule) number e = record { event = number; why = rule; item = item_of e } ∷ []

  -- the events refused of a list, whose first has this number
  abbrev pub refused_of : ℕ → ℕ → List (Event T) → List (Event T) → List (Refused T)
  refused_of files number before [] = []
  refused_of files number before (e ∷ es) = refused_one (refusal_now files before e) number e ++ refused_of files (suc number) (after (refusal_now files before e) before e) es
