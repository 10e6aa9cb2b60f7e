-- Lists of events worked by hand.
use Rattle.std.specs.Prelude.{◌≡◌, ℕ, List, [], ◌∷◌, ◌++◌, Some, None, true, false, ◌*◌}
use Rattle.fq_lanes.specs.Due.{due, handed_count, offer_count, all_finished}
use Rattle.fq_lanes.specs.Refusals.{refusal_now, accepted_of, refused_of}
use Rattle.fq_lanes.specs.Schedule.{IsSchedule, worked_items}
use Rattle.fq_lanes.specs.declared.events.Why.TheVariants.{Stranger, Closed, Double, Far, Short}
use Rattle.fq_lanes.specs.declared.events.Event.{Event}
use Rattle.fq_lanes.specs.declared.events.Event.TheVariants.{Offer, Close}

-- one file: a double, an item past the close, and a stranger
abbrev pub with_a_double : List (Event ℕ)
with_a_double = Offer 0 1 2 ∷ Offer 0 0 1 ∷ Offer 0 0 3 ∷ Close 0 2 ∷ Offer 0 2 4 ∷ Offer 3 0 5 ∷ []

-- one file: a close that is short, a second close, and a stranger
abbrev pub with_short_closes : List (Event ℕ)
with_short_closes = Offer 0 1 2 ∷ Close 0 1 ∷ Close 0 2 ∷ Close 0 2 ∷ Close 3 0 ∷ Offer 0 0 1 ∷ []

-- one file: the ninth serial before the first item, and after it
abbrev pub with_a_far : List (Event ℕ)
with_a_far = Offer 0 8 1 ∷ Offer 0 0 2 ∷ Offer 0 8 3 ∷ []

-- one file: an item past the close, and far too
abbrev pub with_a_far_end : List (Event ℕ)
with_a_far_end = Close 0 3 ∷ Offer 0 9 1 ∷ []

pub record DriveExamples : Type 0 where
  pub double_due : due (accepted_of 1 [] with_a_double) 1 ≡ (0, 0, 1) ∷ (0, 1, 2) ∷ []
  pub double_refused : refused_of 1 0 [] with_a_double
      ≡ record { event = 2; why = Double; item = Some 3 } ∷ record { event = 4; why = Closed; item = Some 4 } ∷ record { event = 5; why = Stranger; item = Some 5 } ∷ []
  pub short_due : due (accepted_of 1 [] with_short_closes) 1 ≡ (0, 0, 1) ∷ (0, 1, 2) ∷ []
  pub short_refused : refused_of 1 0 [] with_short_closes
      ≡ record { event = 1; why = Short; item = None } ∷ record { event = 3; why = Closed; item = None } ∷ record { event = 4; why = Stranger; item = None } ∷ []
  pub far_due : due (accepted_of 1 [] with_a_far) 1 ≡ (0, 0, 2) ∷ []
  pub far_refused : refused_of 1 0 [] with_a_far ≡ record { event = 0; why = Far; item = Some 1 } ∷ []
  pub far_end_refused : refused_of 1 0 [] with_a_far_end ≡ record { event = 1; why = Closed; item = Some 1 } ∷ []

-- two files, the first of which has no item
abbrev pub second_file : List (Event ℕ)
second_file = Offer 1 0 1 ∷ []

abbrev pub first_closed : List (Event ℕ)
first_closed = second_file ++ Close 0 0 ∷ []

abbrev pub both_closed : List (Event ℕ)
both_closed = first_closed ++ Close 1 1 ∷ []

pub record SinkExamples : Type 0 where
  pub nothing_due : due second_file 2 ≡ []
  pub one_due : due first_closed 2 ≡ (1, 0, 1) ∷ []
  pub one_offered : offer_count first_closed 1 ≡ 1
  pub one_handed_out : handed_count 1 1 (due first_closed 2) ≡ 1
  pub not_finished : all_finished first_closed 0 2 ≡ false
  pub twice : refusal_now 2 first_closed (Offer 1 0 2) ≡ Some Double
  pub finished : all_finished both_closed 0 2 ≡ true
  pub too_late : refusal_now 2 both_closed (Offer 1 1 3) ≡ Some Closed

-- a feed of 1 and 2 and a feed of 3, the work that doubles, and two workers, of which the one with the later item is done first
abbrev pub two_feeds : List (List ℕ)
two_feeds = (1 ∷ 2 ∷ []) ∷ (3 ∷ []) ∷ []

abbrev pub doubled : ℕ → ℕ → ℕ
doubled f x = 2 * x

pub record ScheduleExample : Type 0 where
  pub one_order : IsSchedule doubled two_feeds (((0, 1, 2) ∷ []) ∷ ((0, 0, 1) ∷ (1, 0, 3) ∷ []) ∷ [])
      (Offer 0 1 4 ∷ Close 1 1 ∷ Offer 0 0 2 ∷ Close 0 2 ∷ Offer 1 0 6 ∷ [])
  pub its_items : worked_items doubled two_feeds ≡ (0, 0, 2) ∷ (0, 1, 4) ∷ (1, 0, 6) ∷ []
