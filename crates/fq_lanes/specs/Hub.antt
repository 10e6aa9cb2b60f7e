-- What the hub handed on to its tail.
use Rattle.std.specs.Prelude.{◌≡◌, ℕ, List, None, length}
use mathlib.Core.List.{IsPrefix}
use Rattle.fq_lanes.specs.Due.{due}
use Rattle.fq_lanes.specs.Refusals.{refusal_at}
use Rattle.fq_lanes.specs.Sink.{HasAccepted, file_count}
use Rattle.fq_lanes.specs.Numbering.{numbers}
use Rattle.fq_lanes.specs.TailTaking.{Took, TookUntilRefused}
use Rattle.fq_lanes.specs.declared.events.Event.{Event}
use Rattle.fq_lanes.specs.declared.hub.Hub.{Hub}

module _ {S O : Type 0} where
  -- its sink accepted these events, and its tail, at first so, took this log, a prefix of what is due
  pub record HandsOn (takes : S → ℕ → ℕ → O → S → Type 0) (first : S) (events : List (Event O)) (log : List (ℕ × ℕ × O)) (hub : Hub S O) : Type 0 where
    pub accepted : HasAccepted hub.sink events (length log)
    pub begins : IsPrefix log (due events (file_count hub.sink))
    pub took : Took takes first log hub.tail
    pub traced : hub.trace.items ≡ numbers log

  -- the log is all that is due
  abbrev pub HandedOn : (S → ℕ → ℕ → O → S → Type 0) → S → List (Event O) → Hub S O → Type 0
  HandedOn takes first events hub = HandsOn takes first events (due events (file_count hub.sink)) hub

  -- it stopped out of memory: its tail took a prefix of what is due, and refused at most one call
  abbrev pub HasStopped : (S → ℕ → ℕ → O → S → Type 0) → (S → S → Type 0) → S → List (Event O) → ℕ → S → Type 0
  HasStopped takes refuses first events files tail =
      (log : List (ℕ × ℕ × O)) × IsPrefix log (due events files) × TookUntilRefused takes refuses first log tail

  -- the sink accepts this event
  abbrev pub MayTell : Hub S O → Event O → Type 0
  MayTell hub event = (events : List (Event O)) × (taken : ℕ) × HasAccepted hub.sink events taken × (refusal_at (file_count hub.sink) events taken event ≡ None)
