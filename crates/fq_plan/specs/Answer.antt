-- What a plan's text and the bytes of its files come to.
use Rattle.std.specs.Prelude.{ℕ, List, Ok, Err}
use Rattle.fq_csv.specs.Printed.{printed_in}
use Rattle.fq_language.specs.Judged.{judged}
use Rattle.fq_plan.specs.Meaning.{meaning}
use Rattle.fq_language.specs.Plan.{file_streams}
use Rattle.fq_language.specs.Spelling.{read_as_plan}
use Rattle.fq_language.specs.declared.faults.CheckFault.{CheckFault}
use Rattle.fq_run.specs.declared.faults.Fault.{Fault}
use Rattle.fq_language.specs.declared.faults.PlanFault.{PlanFault}

-- the text of a frame, a fault of the run, a refusal of the check, or why the text spells no plan
pub data Answer : Type 0 where
  prints : List ℕ → Answer
  faults : Fault → Answer
  refused : CheckFault → Answer
  no_plan : PlanFault → Answer

abbrev pub answer : List ℕ → List (List ℕ) → Answer
answer text files = elim (read_as_plan text) [
  | Err e ↦ no_plan e
  | Ok p ↦ elim (judged p) [
    | Err e ↦ refused e
    | Ok schemas ↦ elim (meaning p (file_streams p files)) [ Err f ↦ faults f | Ok frame ↦ prints (printed_in p.notations frame) ]
  ]
]
