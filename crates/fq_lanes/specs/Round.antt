-- The jobs of a round, and their answers.
use Rattle.std.specs.Prelude.{◌≡◌, ℕ, zero, List, [], ◌∷◌, map, length, Some, IfOk}
use mathlib.Core.List.{IsPrefix}
use Rattle.fq_lanes.specs.Due.{offer_at}
use Rattle.fq_lanes.specs.Engine.{BlamesFeed}
use Rattle.fq_lanes.specs.Hub.{HandedOn}
use Rattle.fq_lanes.specs.Inlet.{Gave, ClosesEnded, DrainsOne}
use Rattle.fq_lanes.specs.Ledger.{times, Books, Reads}
use Rattle.fq_lanes.specs.Beside.{Each}
use Rattle.fq_lanes.specs.Numbering.{item_at, numbered, numbers, AllNumbered}
use Rattle.fq_lanes.specs.Sink.{file_count}
use Rattle.fq_lanes.specs.TailTaking.{TookUntilRefused}
use Rattle.fq_lanes.specs.FileWindow.{AreNear}
use Rattle.fq_lanes.specs.declared.events.Event.{Event}
use Rattle.fq_lanes.specs.declared.hub.Hub.{Hub}
use Rattle.fq_lanes.specs.declared.inlet.Inlet.{Inlet}
use Rattle.fq_lanes.specs.declared.faults.RunFault.{RunFault}
use Rattle.fq_lanes.specs.declared.job.Job.{Job}
use Rattle.fq_lanes.specs.declared.job.Answer.{Answer}

module _ {X : Type 0} where
  -- the jobs' files and serials
  abbrev pub job_numbers : List (Job X) → List (ℕ × ℕ)
  job_numbers jobs = map (λ j. (j.file, j.serial)) jobs

  -- each job is an item under its numbers
  abbrev pub AreItems : List (List X) → List (Job X) → Type 0
  AreItems items [] = Unit {0}
  AreItems items (j ∷ jobs) = (item_at items j.file j.serial ≡ Some j.item) × AreItems items jobs

module _ {O : Type 0} where
  -- the answers' files and serials
  abbrev pub answer_numbers : List (Answer O) → List (ℕ × ℕ)
  answer_numbers answers = map (λ a. (a.file, a.serial)) answers

module _ {X O : Type 0} where
  -- the answer has the job's numbers and, if it is not a refusal, it is the work on its item
  abbrev pub Answers : (ℕ → X → O → Type 0) → Job X → Answer O → Type 0
  Answers works job answer = (answer.file ≡ job.file) × (answer.serial ≡ job.serial) × IfOk answer.outcome (λ o. works job.file job.item o)

  -- each answer, if it is not a refusal, is the work on the item under its numbers
  abbrev pub AreWorked : (ℕ → X → O → Type 0) → List (List X) → List (Answer O) → Type 0
  AreWorked works items [] = Unit {0}
  AreWorked works items (a ∷ answers) =
      IfOk a.outcome (λ o. (x : X) × (item_at items a.file a.serial ≡ Some x) × works a.file x o) × AreWorked works items answers

module _ {F X S O : Type 0} where
  -- these items were read, and the work on them was offered and handed on, but for these jobs
  pub record InRound (gives : F → List X → Type 0) (is_open may_fail : F → Type 0) (most : F → ℕ) (takes : S → ℕ → ℕ → O → S → Type 0)
      (feeds : List F) (first : S) (items : List (List X)) (events : List (Event O)) (inlets : List (Inlet F)) (hub : Hub S O) (jobs : List (Job X)) : Type 0 where
    pub gave : Gave gives is_open may_fail most feeds items inlets
    pub books : Books items (λ f s. times f s (job_numbers jobs)) events
    pub closed : ClosesEnded inlets events
    pub handed : HandedOn takes first events hub
    pub files : file_count hub.sink ≡ length feeds
    pub waits : AreItems items jobs
    pub near : AreNear events (file_count hub.sink) (job_numbers jobs)

  -- the tail took a prefix of the offers, by file, then serial, and refused at most one call
  abbrev pub Halted : (F → List X → Type 0) → (S → ℕ → ℕ → O → S → Type 0) → (S → S → Type 0) → List F → S → List (List X) → List (Event O) → S → Type 0
  Halted gives takes refuses feeds first items events tail =
      (all : List (List X)) × Each gives feeds all × ((f s : ℕ) (x : X) → item_at items f s ≡ Some x → item_at all f s ≡ Some x)
      × ((log : List (ℕ × ℕ × O)) × TookUntilRefused takes refuses first log tail × IsPrefix (numbers log) (numbers (numbered zero all)) × AllNumbered (λ f s o. offer_at events f s ≡ Some o) log)

module _ {F : Type 0} where
  -- the feeds may be drained, and a read fault names one that may fail
  abbrev pub Faulted : (F → Type 0) → (F → Type 0) → List F → List (Inlet F) → RunFault → Type 0
  Faulted is_open may_fail feeds inlets fault = Each (DrainsOne is_open may_fail) feeds inlets × BlamesFeed may_fail feeds fault

module _ {F X S O : Type 0} where
  -- more was read: from these items and events to others, with nothing offered meanwhile
  abbrev pub ReadsOn : (F → List X → Type 0) → (F → Type 0) → (F → Type 0) → (F → ℕ) → (S → ℕ → ℕ → O → S → Type 0)
      → List F → S → List (List X) → List (Event O) → List (Inlet F) → Hub S O → List (Job X) → Type 0
  ReadsOn gives is_open may_fail most takes feeds first items events inlets hub jobs =
      (items' : List (List X)) × (events' : List (Event O)) × Reads items items' events events'
      × InRound gives is_open may_fail most takes feeds first items' events' inlets hub jobs

  -- the round broke off
  abbrev pub BreaksOff : (F → List X → Type 0) → (F → Type 0) → (F → Type 0) → (S → ℕ → ℕ → O → S → Type 0) → (S → S → Type 0)
      → List F → S → List (List X) → List (Event O) → List (Inlet F) → Hub S O → RunFault → Type 0
  BreaksOff gives is_open may_fail takes refuses feeds first items events inlets hub fault =
      Halted gives takes refuses feeds first items events hub.tail × Faulted is_open may_fail feeds inlets fault
