-- What a failure is one of.
use Rattle.std.proofs.Common.{◌≡◌, ◌≤◌, Result, Ok, Err, refl, ap, sym, inl, inr, arith}
use Rattle.std.specs.Prelude.{◌⊎◌, OnOk, IfErr}
use Rattle.fq_column.specs.declared.faults.StepFault.{StepFault}
use Rattle.fq_column.specs.declared.faults.StepFault.TheVariants as code
use Rattle.fq_run.specs.Run.{IsStartFault, IsOfMeaning}
use Rattle.fq_run.specs.declared.faults.Fault.{Fault}
use Rattle.fq_run.specs.declared.faults.Fault.TheVariants as fault
use Rattle.fq_language.specs.declared.faults.PlanFault.TheVariants as plan
use Rattle.fq_messages.specs.Ending.{status_of_fault, status_of, number_of, done, bad_device, no_memory, code_of, IsOutside}
use Rattle.fq_messages.specs.declared.failures.Failure.{Failure}
use Rattle.fq_messages.specs.declared.status.Status.TheVariants.{BadPlan, NoMemory}
use Rattle.fq_messages.specs.declared.failures.Failure.TheVariants.{Arguments, InputTwice, PlanReplaced, Decimals, Notation, PlanFile, Plan, Check, Run, Problems, Draft, DraftTooLarge}
use Rattle.fq_plan.specs.declared.noted.NotationFault.TheVariants as notation
use Rattle.fq_review.specs.declared.drafts.DraftFault.TheVariants as draft

-- a run's fault: it did not start, or the fault is the plan's meaning, or it came from outside
pub kind-of-fault : (f : Fault) → IsStartFault f ⊎ (IsOfMeaning f ⊎ IsOutside (Run f))
kind-of-fault (fault.Inputs wanted got) = inl tt
kind-of-fault fault.Setting = inl tt
kind-of-fault fault.Memory = inr (inr (inr refl))
kind-of-fault (fault.Read file) = inr (inr (inl refl))
kind-of-fault (fault.Header file) = inr (inl tt)
kind-of-fault (fault.Width file row) = inr (inl tt)
kind-of-fault (fault.BadCell file row column) = inr (inl tt)
kind-of-fault (fault.TooLong file) = inr (inl tt)
kind-of-fault (fault.Overflow step item) = inr (inl tt)
kind-of-fault (fault.JoinRows step) = inr (inl tt)
kind-of-fault (fault.RollRange step) = inr (inl tt)
kind-of-fault (fault.SumRange step item) = inr (inl tt)
kind-of-fault fault.Write = inr (inr (inl refl))

-- no failure has the status of a frame
fault-fails : (f : Fault) → 1 ≤ number_of (status_of_fault f)
fault-fails (fault.Inputs wanted got) = omega arith
fault-fails fault.Setting = omega arith
fault-fails fault.Memory = omega arith
fault-fails (fault.Read file) = omega arith
fault-fails (fault.Header file) = omega arith
fault-fails (fault.Width file row) = omega arith
fault-fails (fault.BadCell file row column) = omega arith
fault-fails (fault.TooLong file) = omega arith
fault-fails (fault.Overflow step item) = omega arith
fault-fails (fault.JoinRows step) = omega arith
fault-fails (fault.RollRange step) = omega arith
fault-fails (fault.SumRange step item) = omega arith
fault-fails fault.Write = omega arith

refusal-fails : (k : StepFault) → 1 ≤ number_of (elim k [ code.Memory ↦ NoMemory | _ ↦ BadPlan ])
refusal-fails code.NoSuchColumn = omega arith
refusal-fails code.WrongKind = omega arith
refusal-fails code.DoubleName = omega arith
refusal-fails code.NotBool = omega arith
refusal-fails code.TooMany = omega arith
refusal-fails code.NoColumn = omega arith
refusal-fails code.NoSuchSource = omega arith
refusal-fails code.Window = omega arith
refusal-fails code.Samples = omega arith
refusal-fails code.Memory = omega arith

fails : (f : Failure) → 1 ≤ number_of (status_of f)
fails Arguments = omega arith
fails InputTwice = omega arith
fails PlanReplaced = omega arith
fails Decimals = omega arith
fails (Notation (notation.NoColumn place)) = omega arith
fails (Notation (notation.Twice place)) = omega arith
fails (Notation (notation.Step step why)) = omega arith
fails (Notation (notation.Item step item why)) = omega arith
fails (Notation notation.Memory) = omega arith
fails PlanFile = omega arith
fails (Plan plan.Json) = omega arith
fails (Plan plan.Shape) = omega arith
fails (Plan plan.Memory) = omega arith
fails (Check e) = refusal-fails e.code
fails (Run f) = fault-fails f
fails Problems = omega arith
fails (Draft (draft.NoHeader file)) = omega arith
fails (Draft (draft.TooMany file)) = omega arith
fails (Draft (draft.DoubleName file)) = omega arith
fails (Draft (draft.BadName file)) = omega arith
fails (Draft (draft.Read file)) = omega arith
fails (Draft draft.Memory) = omega arith
fails DraftTooLarge = omega arith

-- what holds of an ending that is answered as one with a frame
pub ended-well : {X : Type 0} {P : Type 0} (r : Result X Failure) → code_of r ≡ done → OnOk r P → P
ended-well (Ok x) e h = h
ended-well (Err f) e h = let bad = fails f in absurd (omega (arith, bad, e))

-- the status of an ending that is an answer, or came from outside
pub ended-as : {X Y : Type 0} (P : Y → Type 0) (r : Result X Failure) (answer : Result Y Failure) →
    OnOk r ((y : Y) × (answer ≡ Ok y) × P y) → IfErr r (λ f. (answer ≡ Err f) ⊎ IsOutside f) →
    (code_of r ≡ code_of answer) ⊎ ((code_of r ≡ bad_device) ⊎ (code_of r ≡ no_memory))
ended-as P (Ok x) answer printed failed = inl (sym (ap code_of printed.1))
ended-as P (Err f) answer printed failed = elim failed [
  | inl same ↦ inl (sym (ap code_of same))
  | inr outside ↦ elim outside [ inl device ↦ inr (inl (ap number_of device)) | inr memory ↦ inr (inr (ap number_of memory)) ]
]
