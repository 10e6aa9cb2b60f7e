-- How the program ends: the exit status of each failure.
use Rattle.std.specs.Prelude.{◌≡◌, ◌⊎◌, ℕ, Result, Ok, Err}
use Rattle.fq_column.specs.declared.faults.StepFault.TheVariants as code
use Rattle.fq_language.specs.declared.faults.CheckFault.{CheckFault}
use Rattle.fq_run.specs.declared.faults.Fault.{Fault}
use Rattle.fq_run.specs.declared.faults.Fault.TheVariants.{Inputs, Setting, Memory, Read, Write}
use Rattle.fq_language.specs.declared.faults.PlanFault.{PlanFault}
use Rattle.fq_language.specs.declared.faults.PlanFault.TheVariants as plan
use Rattle.fq_messages.specs.declared.failures.Failure.{Failure}
use Rattle.fq_shell.specs.declared.files.OpenFault.{OpenFault}
use Rattle.fq_shell.specs.declared.files.OpenFault.TheVariants as opening
use Rattle.fq_plan.specs.declared.noted.NotationFault.{NotationFault}
use Rattle.fq_plan.specs.declared.noted.NotationFault.TheVariants as notation
use Rattle.fq_review.specs.declared.drafts.DraftFault.{DraftFault}
use Rattle.fq_review.specs.declared.drafts.DraftFault.TheVariants as draft
use Rattle.fq_messages.specs.declared.failures.Failure.TheVariants.{Arguments, InputTwice, PlanReplaced, Decimals, Notation, PlanFile, Plan, Check, Run, Problems, Draft, DraftTooLarge}
use Rattle.fq_messages.specs.declared.status.Status.{Status}
use Rattle.fq_messages.specs.declared.status.Status.TheVariants.{Done, BadArguments, BadPlan, BadFile, BadDevice, NoMemory}

-- the status of a run's fault
abbrev pub status_of_fault : Fault → Status
status_of_fault (Inputs wanted got) = BadArguments
status_of_fault Setting = BadArguments
status_of_fault Memory = NoMemory
status_of_fault (Read file) = BadDevice
status_of_fault Write = BadDevice
status_of_fault _ = BadFile

-- the status of a refusal of the check
abbrev pub status_of_refusal : CheckFault → Status
status_of_refusal refusal = elim refusal.code [ code.Memory ↦ NoMemory | _ ↦ BadPlan ]

-- the status of a failure
abbrev pub status_of : Failure → Status
status_of Arguments = BadArguments
status_of InputTwice = BadArguments
status_of PlanReplaced = BadArguments
status_of Decimals = BadArguments
status_of (Notation notation.Memory) = NoMemory
status_of (Notation fault) = BadArguments
status_of PlanFile = BadDevice
status_of (Plan plan.Memory) = NoMemory
status_of (Plan fault) = BadPlan
status_of (Check refusal) = status_of_refusal refusal
status_of (Run fault) = status_of_fault fault
status_of Problems = BadFile
status_of (Draft draft.Memory) = NoMemory
status_of (Draft (draft.Read file)) = BadDevice
status_of (Draft fault) = BadFile
status_of DraftTooLarge = BadArguments

-- why a text is no plan, as a failure of the program: a failed allocation has one name, wherever it was
abbrev pub misread : PlanFault → Failure
misread plan.Memory = Run Memory
misread fault = Plan fault

-- a refusal of the check as a failure of the program
abbrev pub refused : CheckFault → Failure
refused refusal = elim refusal.code [ code.Memory ↦ Run Memory | _ ↦ Check refusal ]

-- why notations are refused, as a failure of the program
abbrev pub unnoted : NotationFault → Failure
unnoted notation.Memory = Run Memory
unnoted fault = Notation fault

-- a fault of a draft as a failure of the program: a file that cannot be read, and a failed allocation, have one name, wherever they are
abbrev pub undrafted : DraftFault → Failure
undrafted draft.Memory = Run Memory
undrafted (draft.Read file) = Run (Read file)
undrafted fault = Draft fault

-- why a file cannot be made or put in its place, as a failure of the program
abbrev pub unplaced : OpenFault → Failure
unplaced opening.Memory = Run Memory
unplaced (opening.Failed error) = Run Write

-- the failures that no input explains: of a device, or an allocation that failed
abbrev pub IsOutside : Failure → Type 0
IsOutside failure = (status_of failure ≡ BadDevice) ⊎ (status_of failure ≡ NoMemory)

-- the numbers of the statuses
abbrev pub number_of : Status → ℕ
number_of Done = 0
number_of BadArguments = 2
number_of BadPlan = 3
number_of BadFile = 4
number_of BadDevice = 5
number_of NoMemory = 6

abbrev pub done : ℕ
done = number_of Done

abbrev pub bad_device : ℕ
bad_device = number_of BadDevice

abbrev pub no_memory : ℕ
no_memory = number_of NoMemory

-- the exit status of an ending
abbrev pub code_of : {X : Type 0} → Result X Failure → ℕ
code_of (Ok x) = done
code_of (Err failure) = number_of (status_of failure)
