-- What the hub keeps from turn to turn.
use Rattle.std.specs.Prelude.{◌≡◌, ℕ, ◌+◌, List, [], ◌∷◌, ◌++◌, length, Some, None, true, false, if◌then◌else◌, Result, MatchResult}
use Rattle.std.specs.List.{slice_get}
use mathlib.Core.List.{IsPrefix}
use Rattle.fq_lanes.specs.Due.{offer_at, close_at}
use Rattle.fq_lanes.specs.Faults.{Precedes, fault_at}
use Rattle.fq_lanes.specs.Hub.{HandedOn, HasStopped}
use Rattle.fq_lanes.specs.Ledger.{times, none_waits, Books}
use Rattle.fq_lanes.specs.Numbering.{item_at}
use Rattle.fq_lanes.specs.Sink.{file_count}
use Rattle.fq_lanes.specs.HubView.{items_of, end_told, FeedView, WorkerView, told_in, items_in, Tells}
use Rattle.fq_lanes.specs.FileWindow.{AreNear}
use Rattle.fq_lanes.specs.WorkerThread.{Waits, Has}
use Rattle.fq_lanes.specs.declared.events.Event.{Event}
use Rattle.fq_lanes.specs.declared.faults.FeedFault.{FeedFault}
use Rattle.fq_lanes.specs.declared.faults.FeedFault.TheVariants as feed_fault
use Rattle.fq_lanes.specs.declared.faults.RunFault.{RunFault}
use Rattle.fq_lanes.specs.declared.faults.RunFault.TheVariants.{Memory, Read}
use Rattle.fq_lanes.specs.declared.feed_lane.Polled.{Polled}
use Rattle.fq_lanes.specs.declared.feed_lane.Polled.TheVariants as polled
use Rattle.fq_lanes.specs.declared.hub.Hub.{Hub}
use Rattle.fq_lanes.specs.declared.job.Job.{Job}
use Rattle.fq_lanes.specs.declared.messages.FromFeed.{FromFeed}
use Rattle.fq_lanes.specs.declared.messages.FromFeed.TheVariants.{Item, End}
use Rattle.fq_lanes.specs.declared.messages.ToWorker.{ToWorker}
use Rattle.fq_lanes.specs.declared.messages.ToWorker.TheVariants.{Do, Stop}

module _ {X : Type 0} where
  -- what a poll of a feed tells the hub, by its lane before and after
  abbrev pub Polls : FeedView X → Polled X → FeedView X → Type 0
  Polls old polled.Nothing new = new ≡ old
  Polls old (polled.Item s x) new = (old.ended ≡ false) × (new.told ≡ old.told ++ Item x ∷ []) × (s ≡ old.items) × (new.items ≡ old.items + 1) × (new.ended ≡ false)
  Polls old (polled.End n) new = (old.ended ≡ false) × (new.told ≡ old.told ++ End None ∷ []) × (n ≡ old.items) × (new.items ≡ old.items) × (new.ended ≡ true)
  Polls old polled.TooMany new = IsPrefix old.told new.told
  Polls old (polled.Fault e) new = new.told ≡ old.told ++ End (Some e) ∷ []

  -- each job is an item under its numbers
  abbrev pub JobsAreItems : List (List X) → List (ToWorker X) → Type 0
  JobsAreItems items [] = Unit {0}
  JobsAreItems items (Do job ∷ js) = (item_at items job.file job.serial ≡ Some job.item) × JobsAreItems items js
  JobsAreItems items (Stop ∷ js) = JobsAreItems items js

  -- a read fault was told by the feed that it names
  abbrev pub BlamesTold : List (List (FromFeed X)) → RunFault → Type 0
  BlamesTold messages Memory = Unit {0}
  BlamesTold messages (Read file) = (told : List (FromFeed X)) × (slice_get messages file ≡ Some told) × Tells told (End (Some feed_fault.Read))

  -- no feed has told a fault that takes precedence over this one
  abbrev pub PrecedesTold : List (List (FromFeed X)) → RunFault → Type 0
  PrecedesTold messages fault = (file : ℕ) (told : List (FromFeed X)) (e : FeedFault) → slice_get messages file ≡ Some told → end_told told ≡ Some (Some e) → Precedes fault (fault_at e file)

module _ {X O : Type 0} where
  -- how often the pair of f and s is outstanding
  abbrev pub waiting : List (WorkerView X O) → ℕ → ℕ → ℕ
  waiting [] f s = 0
  waiting (d ∷ ds) f s = times f s d.outstanding + waiting ds f s

  -- the lane's count and end are what was taken, and just an ended file is closed
  abbrev pub FeedFits : List (Event O) → ℕ → FeedView X → Type 0
  FeedFits events f v = (v.items ≡ length (items_of v.told)) × (end_told v.told ≡ (if v.ended then Some None else None)) × (close_at events f ≡ (if v.ended then Some v.items else None))

  -- the jobs are items, and those without an answer are outstanding
  abbrev pub WorkerFits : List (List X) → WorkerView X O → Type 0
  WorkerFits items d = JobsAreItems items d.jobs × Waits d.jobs d.answers d.outstanding

  -- an answer, from the worker that was given the job, to the job of the item of f and s
  abbrev pub Sourced : List (List X) → List (WorkerView X O) → ℕ → ℕ → O → Type 0
  Sourced items ds f s o =
      (job : Job X) × (job.file ≡ f) × (job.serial ≡ s) × (item_at items f s ≡ Some job.item)
      × ((w : ℕ) × (d : WorkerView X O) × (slice_get ds w ≡ Some d) × Has d.jobs d.answers job o)

  -- so is each accepted offer
  abbrev pub OffersSourced : List (List X) → List (WorkerView X O) → List (Event O) → Type 0
  OffersSourced items ds events = (f s : ℕ) (o : O) → offer_at events f s ≡ Some o → Sourced items ds f s o

  -- no outstanding job is past its file's window
  abbrev pub OutstandingNear : List (Event O) → ℕ → List (WorkerView X O) → Type 0
  OutstandingNear events files ds = (w : ℕ) (d : WorkerView X O) → slice_get ds w ≡ Some d → AreNear events files d.outstanding

  -- what the hub knows of the lanes, by what went through them and the events that its sink accepted
  pub record Known (vs : List (FeedView X)) (ds : List (WorkerView X O)) (events : List (Event O)) : Type 0 where
    pub lanes : (f : ℕ) (v : FeedView X) → slice_get vs f ≡ Some v → FeedFits events f v
    pub workers : (w : ℕ) (d : WorkerView X O) → slice_get ds w ≡ Some d → WorkerFits (items_in (told_in vs)) d
    pub sourced : OffersSourced (items_in (told_in vs)) ds events
    pub books : Books (items_in (told_in vs)) (waiting ds) events

module _ {X S O : Type 0} where
  -- between two steps of the hub: all that is due was handed on
  pub record InTurn (takes : S → ℕ → ℕ → O → S → Type 0) (first : S) (vs : List (FeedView X)) (ds : List (WorkerView X O)) (hub : Hub S O) (events : List (Event O)) : Type 0 where
    pub known : Known vs ds events
    pub handed : HandedOn takes first events hub
    pub files : file_count hub.sink ≡ length vs
    pub near : OutstandingNear events (length vs) ds

  -- after a fault: the tail took a prefix of what was due, and refused at most one call
  pub record Halt (takes : S → ℕ → ℕ → O → S → Type 0) (refuses : S → S → Type 0) (first : S) (messages : List (List (FromFeed X))) (ds : List (WorkerView X O)) (tail : S) (events : List (Event O)) : Type 0 where
    pub closes : (f n : ℕ) → close_at events f ≡ Some n → (told : List (FromFeed X)) × (slice_get messages f ≡ Some told) × (end_told told ≡ Some None) × (n ≡ length (items_of told))
    pub sourced : OffersSourced (items_in messages) ds events
    pub stopped : HasStopped takes refuses first events (length messages) tail

  -- so, and a read fault was told by the feed that it names, and takes precedence over each that was told
  abbrev pub Halts : (S → ℕ → ℕ → O → S → Type 0) → (S → S → Type 0) → S → List (List (FromFeed X)) → List (WorkerView X O) → S → RunFault → Type 0
  Halts takes refuses first messages ds tail fault = ((events : List (Event O)) × Halt takes refuses first messages ds tail events) × BlamesTold messages fault × PrecedesTold messages fault

  -- a step of the hub: it goes on, or halts at a fault
  abbrev pub HubGoesOn : {U : Type 0} → (S → ℕ → ℕ → O → S → Type 0) → (S → S → Type 0) → S → List (FeedView X) → List (WorkerView X O) → Hub S O → Result U RunFault → Type 0
  HubGoesOn takes refuses first vs ds hub result =
      MatchResult result (λ _. (events : List (Event O)) × InTurn takes first vs ds hub events)
      (λ fault. Halts takes refuses first (told_in vs) ds hub.tail fault)

  -- in the end: each feed ended without a fault, and the work on each of its items was offered
  pub record Settled (takes : S → ℕ → ℕ → O → S → Type 0) (first : S) (messages : List (List (FromFeed X))) (ds : List (WorkerView X O)) (hub : Hub S O) (events : List (Event O)) : Type 0 where
    pub ends : (f : ℕ) (told : List (FromFeed X)) → slice_get messages f ≡ Some told → (end_told told ≡ Some None) × (close_at events f ≡ Some (length (items_of told)))
    pub sourced : OffersSourced (items_in messages) ds events
    pub books : Books (items_in messages) none_waits events
    pub handed : HandedOn takes first events hub
    pub files : file_count hub.sink ≡ length messages

  -- how the hub's turns ended
  abbrev pub RunDone : (S → ℕ → ℕ → O → S → Type 0) → (S → S → Type 0) → S → List (List (FromFeed X)) → List (WorkerView X O) → Hub S O → Result (Unit {0}) RunFault → Type 0
  RunDone takes refuses first messages ds hub outcome =
      MatchResult outcome (λ _. (events : List (Event O)) × Settled takes first messages ds hub events)
      (λ fault. Halts takes refuses first messages ds hub.tail fault)
