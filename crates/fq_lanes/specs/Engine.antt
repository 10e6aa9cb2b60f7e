-- What the engine promises, in whatever order its workers are done.
use Rattle.std.specs.Prelude.{◌≡◌, ℕ, zero, List, Some}
use Rattle.std.specs.List.{slice_get}
use Rattle.fq_lanes.specs.Beside.{Each, EachStart}
use Rattle.fq_lanes.specs.Numbering.{numbered, numbers}
use Rattle.fq_lanes.specs.TailTaking.{Took, TookUntilRefused}
use Rattle.fq_lanes.specs.declared.faults.RunFault.{RunFault}
use Rattle.fq_lanes.specs.declared.faults.RunFault.TheVariants.{Memory, Read}

module _ {X O : Type 0} where
  -- the same numbers, and the work on the item
  abbrev pub IsWorked : (ℕ → X → O → Type 0) → (ℕ × ℕ × X) → (ℕ × ℕ × O) → Type 0
  IsWorked works e r = (r.0 ≡ e.0) × (r.1 ≡ e.1) × works e.0 e.2 r.2

  -- the work on each item of each file, each once, by file, then serial
  abbrev pub Worked : (ℕ → X → O → Type 0) → List (List X) → List (ℕ × ℕ × O) → Type 0
  Worked works items log = Each (IsWorked works) (numbered zero items) log

  -- a prefix of that
  abbrev pub StartsWorked : (ℕ → X → O → Type 0) → List (List X) → List (ℕ × ℕ × O) → Type 0
  StartsWorked works items log = EachStart (IsWorked works) (numbered zero items) log

module _ {F X S O : Type 0} where
  -- the tail took the work on all that the feeds gave, and the trace lists the numbers
  abbrev pub Finishes : (F → List X → Type 0) → (ℕ → X → O → Type 0) → (S → ℕ → ℕ → O → S → Type 0) → List F → S → List (ℕ × ℕ) → S → Type 0
  Finishes gives works takes feeds tail trace tail' =
      (items : List (List X)) × Each gives feeds items
      × ((log : List (ℕ × ℕ × O)) × Worked works items log × Took takes tail log tail' × (trace ≡ numbers log))

  -- the tail took a prefix of the work on what the feeds give, and refused at most one call
  abbrev pub StopsEarly : (F → List X → Type 0) → (ℕ → X → O → Type 0) → (S → ℕ → ℕ → O → S → Type 0) → (S → S → Type 0) → List F → S → S → Type 0
  StopsEarly gives works takes refuses feeds tail tail' =
      (items : List (List X)) × Each gives feeds items
      × ((log : List (ℕ × ℕ × O)) × StartsWorked works items log × TookUntilRefused takes refuses tail log tail')

module _ {F : Type 0} where
  -- a read fault names a feed that may fail
  abbrev pub BlamesFeed : (F → Type 0) → List F → RunFault → Type 0
  BlamesFeed may_fail feeds Memory = Unit {0}
  BlamesFeed may_fail feeds (Read file) = (feed : F) × (slice_get feeds file ≡ Some feed) × may_fail feed
