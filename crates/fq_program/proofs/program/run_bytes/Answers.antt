use Rattle.std.proofs.Common.{◌≡◌, ◌∷◌, [], ◌∙◌, ℕ, List, Result, Ok, Err, OnOk, ap, sym, subst}
use Rattle.std.specs.Io.KnownBytes.{Appends}
use Rattle.fq_column.specs.Frame.{Frame}
use Rattle.fq_csv.specs.Printed.{printed}
use Rattle.fq_language.specs.Plan.{PlanData}
use Rattle.fq_messages.specs.Input.{plan_line, file_after}
use Rattle.fq_messages.specs.declared.failures.Failure.{Failure}
use Rattle.fq_program.specs.Program.{checked_plan, frame_of, program}
use Rattle.fq_program.proofs.ClauseLemmas.{checked-plain}
use Rattle.fq_program.proofs.program.run_bytes.Goals as goal

-- an input whose plan is checked comes to the frame of the plan over the bytes after its line
program-is : (input line file : List ℕ) (plan : PlanData) → line ≡ plan_line input → file ≡ file_after input → checked_plan line ≡ Ok plan → program input ≡ frame_of plan (file ∷ [])
program-is input line file plan a b e =
    ap {B = Result Frame Failure} (λ (r : Result PlanData Failure). elim r [ Err failure ↦ Err failure | Ok p ↦ frame_of p (file_after input ∷ []) ]) (ap checked_plan (sym a) ∙ e)
    ∙ ap (λ f. frame_of plan (f ∷ [])) (sym b)

pub returns-in-Ok-clause-printed : goal.returns-in-Ok-clause-printed
returns-in-Ok-clause-printed g c =
    let plain = checked-plain c.split_line.result.0.now c.in-Ok.plan c.in-Ok.ensures in
    subst (λ (o : Result Frame Failure). OnOk c.run_file.result ((frame : Frame) × (o ≡ Ok frame) × Appends (g.W.Write.contents c.args.out.now) (g.W.Write.contents c.run_file.new.out) (printed frame)))
    (sym (program-is c.args.input.now c.split_line.result.0.now c.split_line.result.1.now c.in-Ok.plan c.split_line.ensures.line c.split_line.ensures.file c.in-Ok.ensures)) (rw plain at c.run_file.ensures.printed)
