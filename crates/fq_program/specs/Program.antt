-- The program without arguments: a plan's line, then one CSV file.
use Rattle.std.specs.Prelude.{◌≡◌, ℕ, ◌==◌, not, None, List, [], ◌∷◌, length, Result, Ok, Err, if◌then◌else◌}
use Rattle.std.specs.Result.{result_map_both}
use Rattle.fq_column.specs.Frame.{Frame}
use Rattle.fq_language.specs.Judged.{checked}
use Rattle.fq_plan.specs.Meaning.{meaning}
use Rattle.fq_language.specs.Plan.{PlanData, files_wanted}
use Rattle.fq_language.specs.Plan.{file_streams}
use Rattle.fq_language.specs.Spelling.{read_as_plan}
use Rattle.fq_run.specs.Run.{start_refusal}
use Rattle.fq_messages.specs.Input.{plan_line, file_after}
use Rattle.fq_run.specs.declared.faults.Fault.TheVariants.{Inputs}
use Rattle.fq_messages.specs.declared.failures.Failure.{Failure}
use Rattle.fq_messages.specs.declared.failures.Failure.TheVariants.{Plan, Check, Run}

-- the plan that a text spells, if the check does not refuse it
abbrev pub checked_plan : List ℕ → Result PlanData Failure
checked_plan text = elim (read_as_plan text) [ Err fault ↦ Err (Plan fault) | Ok plan ↦ result_map_both (λ p. p) Check (checked plan) ]

-- the frame of a plan over the files' bytes: the number of files is judged before any of them
abbrev pub frame_of : PlanData → List (List ℕ) → Result Frame Failure
frame_of plan files =
    if not (length files == files_wanted plan) then Err (Run (Inputs (files_wanted plan) (length files)))
    else result_map_both (λ frame. frame) Run (meaning plan (file_streams plan files))

-- a batch size and a number of workers with which a run starts, even over no file
abbrev pub AreSettings : ℕ → ℕ → Type 0
AreSettings batch_size workers = start_refusal 0 0 batch_size workers ≡ None

-- the frame that an input comes to, or why it comes to none
abbrev pub program : List ℕ → Result Frame Failure
program input = elim (checked_plan (plan_line input)) [ Err failure ↦ Err failure | Ok plan ↦ frame_of plan (file_after input ∷ []) ]
