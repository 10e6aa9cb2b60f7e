-- A run and a check of the files that arguments name: what they come to, by the text of the plan and the bytes of the files in their order.
use Rattle.std.specs.Prelude.{◌≡◌, ◌≢◌, ◌⊎◌, ◌==◌, ℕ, true, false, List, [], length, is_none, unwrap_or, Option, Some, None, Result, Ok, Err, IfErr, IfSome, IsErrAnd, IsOk, IsSome, MatchResult, if◌then◌else◌}
use Rattle.std.specs.Result.{result_map_both}
use Rattle.std.specs.Io.KnownBytes.{Appends, Keeps}
use Rattle.fq_notation.specs.Notation.{Named}
use Rattle.fq_csv.specs.Printed.{printed_in}
use Rattle.fq_language.specs.Plan.{PlanData, file_layouts, files_wanted}
use Rattle.fq_plan.specs.Noted.{noted, notation_refusal}
use Rattle.fq_review.specs.Checked.{are_clean}
use Rattle.fq_run.specs.Run.{Tell}
use Rattle.fq_run.specs.declared.faults.Fault.TheVariants.{Inputs, Write}
use Rattle.fq_shell.specs.Arguments.{Names, is_check, is_run, names_to_check, plan_text, reads_input_twice, replaces_plan}
use Rattle.fq_messages.specs.Ending.{bad_device, code_of, done, no_memory, number_of, status_of, unnoted, IsOutside}
use Rattle.fq_messages.specs.declared.failures.Failure.{Failure}
use Rattle.fq_messages.specs.declared.failures.Failure.TheVariants.{Decimals, InputTwice, PlanReplaced, Problems, Run}
use Rattle.fq_program.specs.Program.{checked_plan, frame_of}

-- why names are refused, whatever the files are: the frame would replace the plan, standard input is named twice, or an entry of --decimal is
-- wrong
unfoldable pub names_refusal : Names → Option Failure
names_refusal names =
    if replaces_plan names then Some PlanReplaced
    else if reads_input_twice names then Some InputTwice
    else if is_none names.notations then Some Decimals
    else None

-- the notations that names give to columns
abbrev pub notations_of : Names → List Named
notations_of names = unwrap_or names.notations []

-- a plan in notations over so many files, or why it is refused
unfoldable pub noted_plan : PlanData → List Named → ℕ → Result PlanData Failure
noted_plan plan named files =
    if files == files_wanted plan then elim (notation_refusal plan named) [ Some fault ↦ Err (unnoted fault) | None ↦ Ok (noted named plan) ]
    else Err (Run (Inputs (files_wanted plan) files))

-- the plan of a text in notations over so many files, or why it is refused: the text is no plan, the check refuses it, the number of files is
-- not the plan's, or the notations are not of its columns
unfoldable pub plan_in : List ℕ → List Named → ℕ → Result PlanData Failure
plan_in text named files = elim (checked_plan text) [ Err failure ↦ Err failure | Ok plan ↦ noted_plan plan named files ]

-- the plan of a text with the notations that are named, or why it is refused before a data file is opened, which the names may be first
unfoldable pub planned : Names → List ℕ → Result PlanData Failure
planned names text = elim (names_refusal names) [ Some failure ↦ Err failure | None ↦ plan_in text (notations_of names) (length names.files) ]

-- why a run ends before a data file is opened
abbrev pub refusal_of : Result PlanData Failure → Option Failure
refusal_of plan = elim plan [ Err failure ↦ Some failure | Ok p ↦ None ]

unfoldable pub early_failure : Names → List ℕ → Option Failure
early_failure names text = refusal_of (planned names text)

-- the text of the frame that a plan comes to, or why it comes to none
abbrev pub text_over : PlanData → List (List ℕ) → Result (List ℕ) Failure
text_over p files = result_map_both (printed_in p.notations) (λ failure. failure) (frame_of p files)

abbrev pub written : Result PlanData Failure → List (List ℕ) → Result (List ℕ) Failure
written plan files = elim plan [ Err failure ↦ Err failure | Ok p ↦ text_over p files ]

unfoldable pub outcome_of : Names → List ℕ → List (List ℕ) → Result (List ℕ) Failure
outcome_of names text files = written (planned names text) files

-- these are the arguments of a check, and not of a run, and this is the text of the plan that they name
pub record IsCheck (bytes_of : List ℕ → Option (List ℕ)) (arguments : List (List ℕ)) (text : List ℕ) : Type 0 where
  pub other : is_run arguments ≡ false
  pub taken : is_check arguments ≡ true
  pub plan : plan_text bytes_of (names_to_check arguments) ≡ Some text

-- a check of a plan's files: whether anything is wrong in one of them, each read by its own source
abbrev pub reviewed : Result PlanData Failure → List (List ℕ) → Result (Unit {0}) Failure
reviewed plan files = elim plan [ Err failure ↦ Err failure | Ok p ↦ if are_clean (file_layouts p) files then Ok tt else Err Problems ]

unfoldable pub check_of : Names → List ℕ → List (List ℕ) → Result (Unit {0}) Failure
check_of names text files = reviewed (planned names text) files

-- ---- what a run answers, and a check

-- the status is this one, or that of a device or an allocation that failed
abbrev pub EndsAt : ℕ → ℕ → Type 0
EndsAt code status = (status ≡ code) ⊎ ((status ≡ bad_device) ⊎ (status ≡ no_memory))

-- a result is this outcome, or the failure of a device or an allocation
abbrev pub ComesTo : {X Y : Type 0} → Result X Failure → Result Y Failure → Type 0
ComesTo outcome result = MatchResult result (λ _. IsOk outcome) (λ failure. (outcome ≡ Err failure) ⊎ IsOutside failure)

-- these bytes are in the place of the file of this name, if it was known what that file holds
abbrev pub IsPlaced : (List ℕ → Option (List ℕ)) → (List ℕ → Option (List ℕ)) → List ℕ → List ℕ → Type 0
IsPlaced known known_after name placed = (bytes : List ℕ) → known name ≡ Some bytes → known_after name ≡ Some placed

-- what a run leaves: a frame's text was appended to the output, or is in the place of the file that takes it
pub record IsLeft (file : Option (List ℕ)) (before after : Option (List ℕ)) (known known_after : List ℕ → Option (List ℕ)) (text : List ℕ) : Type 0 where
  pub here : file ≡ None → Appends before after text
  pub there : (name : List ℕ) → file ≡ Some name → IsPlaced known known_after name text

-- at a good end the outcome is a text, which is left; a failure is that of the outcome, or of a device or an allocation
abbrev pub Leaves : {X : Type 0} → Result (List ℕ) Failure → Option (List ℕ) → Option (List ℕ) → Option (List ℕ)
    → (List ℕ → Option (List ℕ)) → (List ℕ → Option (List ℕ)) → Result X Failure → Type 0
Leaves outcome file before after known known_after result =
    MatchResult result (λ _. (text : List ℕ) × (outcome ≡ Ok text) × IsLeft file before after known known_after text) (λ failure. (outcome ≡ Err failure) ⊎ IsOutside failure)

-- so ends a run with a plan, where files' bytes are told
abbrev pub LeavesPlan : {X : Type 0} → (List (List ℕ) → Type 0) → Option (List ℕ) → Option (List ℕ) → Option (List ℕ)
    → (List ℕ → Option (List ℕ)) → (List ℕ → Option (List ℕ)) → Result X Failure → PlanData → Type 0
LeavesPlan told file before after known known_after result p = (files : List (List ℕ)) → told files → Leaves (text_over p files) file before after known known_after result

-- a refusal is what is answered, unless a device or an allocation failed; of a plan something holds
abbrev pub AnswersBy : {X : Type 0} → Result PlanData Failure → Result X Failure → (PlanData → Type 0) → Type 0
AnswersBy plan result Holds = elim plan [ Err failure ↦ IsErrAnd result (λ f. (f ≡ failure) ⊎ IsOutside f) | Ok p ↦ Holds p ]

-- each file holds what it held, but the one that takes the frame, if one does
abbrev pub OnlyChanges : Option (List ℕ) → (List ℕ → Option (List ℕ)) → (List ℕ → Option (List ℕ)) → Type 0
OnlyChanges file known known_after = (name bytes : List ℕ) → file ≢ Some name → known name ≡ Some bytes → known_after name ≡ Some bytes

-- whatever a run comes to: no byte is on the output if a file takes the frame, or at a failure but that of a write; no file has changed but
-- the one that takes the frame, and at a failure not even that
pub record IsGuarded {X : Type 0} (file before after : Option (List ℕ)) (known known_after : List ℕ → Option (List ℕ)) (result : Result X Failure) : Type 0 where
  pub elsewhere : IsSome file → Keeps before after
  pub unwritten : IfErr result (λ failure. failure ≢ Run Write → Keeps before after)
  pub untouched : IfErr result (λ _. known_after ≡ known)
  pub others : OnlyChanges file known known_after

-- a run of named files has ended at this status. It is that of a refusal before a data file is opened, or of the outcome; at status 0 the
-- outcome is a text, which was appended to the output, or is in the place of a file, and then no byte is on the output; and at status 0 nothing
-- was said on standard error. Whatever the status is, no file has changed but the one that takes the frame.
pub record RunEnds (names : Names) (known known_after : List ℕ → Option (List ℕ)) (out out_after err err_after : Option (List ℕ)) (ended : ℕ) : Type 0 where
  pub early : (text : List ℕ) → plan_text known names ≡ Some text → IfSome (early_failure names text) (λ refusal. EndsAt (number_of (status_of refusal)) ended)
  pub status : (text : List ℕ) (inputs : List (List ℕ)) → plan_text known names ≡ Some text → Tell known names.files inputs → EndsAt (code_of (outcome_of names text inputs)) ended
  pub output : (text : List ℕ) (inputs : List (List ℕ)) → plan_text known names ≡ Some text → Tell known names.files inputs → names.output ≡ None → ended ≡ done →
      (frame : List ℕ) × (outcome_of names text inputs ≡ Ok frame) × Appends out out_after frame
  pub placed : (text : List ℕ) (inputs : List (List ℕ)) (name : List ℕ) → plan_text known names ≡ Some text → Tell known names.files inputs → names.output ≡ Some name → ended ≡ done →
      (frame : List ℕ) × (outcome_of names text inputs ≡ Ok frame) × IsPlaced known known_after name frame
  pub elsewhere : IsSome names.output → Keeps out out_after
  pub quiet : ended ≡ done → Keeps err err_after
  pub others : OnlyChanges names.output known known_after
