-- What a worker answers.
use Rattle.std.specs.Prelude.{◌≡◌, ℕ, List, [], ◌∷◌, Result, Ok, IfOk, ◌⊎◌}
use Rattle.fq_lanes.specs.declared.faults.Memory.{Memory}
use Rattle.fq_lanes.specs.declared.job.Job.{Job}
use Rattle.fq_lanes.specs.declared.messages.ToWorker.{ToWorker}
use Rattle.fq_lanes.specs.declared.messages.ToWorker.TheVariants.{Do, Stop}

module _ {X O : Type 0} where
  -- each answer, if it is not a refusal, is the work on the job at its place
  abbrev pub Replied : (ℕ → X → O → Type 0) → List (ToWorker X) → List (Result O Memory) → Type 0
  Replied works [] [] = Unit {0}
  Replied works (j ∷ js) [] = Unit {0}
  Replied works [] (a ∷ rs) = ⊥
  Replied works (Do job ∷ js) (a ∷ rs) = IfOk a (λ out. works job.file job.item out) × Replied works js rs
  Replied works (Stop ∷ js) (a ∷ rs) = ⊥

  -- these pairs, in order, are those of the jobs that have no answer yet
  abbrev pub Waits : List (ToWorker X) → List (Result O Memory) → List (ℕ × ℕ) → Type 0
  Waits [] [] [] = Unit {0}
  Waits [] [] (p ∷ ps) = ⊥
  Waits [] (a ∷ rs) ps = ⊥
  Waits (Stop ∷ js) rs ps = ⊥
  Waits (Do job ∷ js) [] [] = ⊥
  Waits (Do job ∷ js) [] (p ∷ ps) = (p ≡ (job.file, job.serial)) × Waits js [] ps
  Waits (Do job ∷ js) (a ∷ rs) ps = Waits js rs ps

  -- at some place stand this job and this answer
  abbrev pub Has : List (ToWorker X) → List (Result O Memory) → Job X → O → Type 0
  Has [] rs job o = ⊥
  Has (j ∷ js) [] job o = ⊥
  Has (j ∷ js) (a ∷ rs) job o = ((j ≡ Do job) × (a ≡ Ok o)) ⊎ Has js rs job o
