use Rattle.std.proofs.Common.{◌≡◌, ℕ, List, [], Result, Ok, Err, ap, append-nil, inl, inr, refl, sym, ◌∙◌, subst}
use Rattle.std.specs.Prelude.{IfErr, IsOk, vec_len}
use Rattle.std.proofs.lemmas.Result.{err_from_is_err_and}
use Rattle.fq_column.specs.Frame.{Fields, Frame, Row}
use Rattle.fq_csv.specs.Printed.{printed_in, printed_names}
use Rattle.fq_lanes.specs.declared.reports.Report.{Report}
use Rattle.fq_notation.specs.declared.notations.Notation.{Notation}
use Rattle.fq_run.specs.GatheredRun.{HasGathered}
use Rattle.fq_run.specs.Physical.{Physical, file_streams, last_columns, outcome_of_run}
use Rattle.fq_run.specs.PrintedText.{text_of}
use Rattle.fq_run.specs.Printing.{whole_text}
use Rattle.fq_run.specs.Run.{IsOfMeaning, IsRunFault, NamesFile, Tell}
use Rattle.fq_run.specs.declared.faults.Fault.{Fault}
use Rattle.fq_run.specs.declared.faults.Fault.TheVariants.{Inputs, Setting, Memory, Read, Write, Header, Width, BadCell, TooLong, Overflow, SumRange, RollRange, JoinRows}
use Rattle.fq_run.specs.declared.printed_text.PrintedText.{PrintedText}
use Rattle.fq_run.specs.declared.printing.Printing.{Printing}
use Rattle.fq_run.proofs.StageOutcomeLemmas.{sound-outcome}
use Rattle.fq_run.proofs.physical_plans.PhysicalPlan.outcome.Given.{Over}
use Rattle.fq_run.proofs.physical_plans.PhysicalPlan.outcome.Goals as goal
use Rattle.fq_run.proofs.physical_plans.PhysicalPlan.outcome.Goals.{In_ok-text-2}

-- it prints in these notations, and has taken just these rows, of these columns
abbrev Prints : {T : Type 0} → List Notation → Printing T → Fields → List Row → Type 0
Prints notations p fields rows = (p.press.notations.now ≡ notations) × (whole_text p ≡ printed_in notations (record { fields = fields; rows = rows }))

-- the names of columns are the text of no rows
prints-none : {T : Type 0} (p : Printing T) (notations : List Notation) (fields : Fields) → p.press.notations.now ≡ notations → whole_text p ≡ printed_names fields → Prints notations p fields []
prints-none p notations fields same names = (same, names ∙ sym (append-nil (printed_names fields)))

pub returns-in_err-finish-clause-fault : goal.returns-in_err-finish-clause-fault
returns-in_err-finish-clause-fault g c files tell =
    let all = c.in_ok-tail.ensures.gathered c.args.self.now.notations
    (prints-none c.in_ok-text.text c.args.self.now.notations (last_columns c.args.self.now) (c.in_ok-text.ensures.notations ∙ ap (λ (p : Physical). p.notations) c.self.view_is) (c.in_ok-text.ensures.text ∙ ap printed_names c.columns.ensures)) in
    let p = err_from_is_err_and c.from_residual-in_err-finish.result c.from_residual-in_err-finish.ensures.1 in
    let base : IsOfMeaning c.in_err-finish.field-0.0 → outcome_of_run c.args.self.now (file_streams c.args.self.now files) ≡ Err c.in_err-finish.field-0.0 =
    elim (c.in_err-finish.ensures c.args.self.now.notations all.stages all.after all.sides all.main all.fits all.stands) [
      | inl memory ↦ λ h. absurd (subst IsOfMeaning memory h)
      | inr made ↦ λ _. sym (all.outcome files tell) ∙ made
    ] in
    subst (λ (r : Result (PrintedText × Report) Fault). IfErr r (λ f. IsOfMeaning f → outcome_of_run c.args.self.now (file_streams c.args.self.now files) ≡ Err f)) (sym p.1)
    (subst (λ (f : Fault). IsOfMeaning f → outcome_of_run c.args.self.now (file_streams c.args.self.now files) ≡ Err f) (sym p.2) base)

-- a fault of the meaning is one of a run that has started, and no failed read
runs : (f : Fault) → IsOfMeaning f → IsRunFault f
runs (Inputs wanted got) h = h
runs Setting h = h
runs Memory h = tt
runs (Read file) h = tt
runs Write h = h
runs (Header file) h = tt
runs (Width file row) h = tt
runs (BadCell file row column) h = tt
runs (TooLong file) h = tt
runs (Overflow step item) h = tt
runs (SumRange step item) h = tt
runs (RollRange step) h = tt
runs (JoinRows step) h = tt

reads : (files : ℕ) (f : Fault) → IsOfMeaning f → NamesFile files f
reads files (Inputs wanted got) h = tt
reads files Setting h = tt
reads files Memory h = tt
reads files (Read file) h = absurd h
reads files Write h = tt
reads files (Header file) h = tt
reads files (Width file row) h = tt
reads files (BadCell file row column) h = tt
reads files (TooLong file) h = tt
reads files (Overflow step item) h = tt
reads files (SumRange step item) h = tt
reads files (RollRange step) h = tt
reads files (JoinRows step) h = tt

pub returns-in_err-finish-clause-kind : goal.returns-in_err-finish-clause-kind
returns-in_err-finish-clause-kind g c =
    let all = c.in_ok-tail.ensures.gathered c.args.self.now.notations
    (prints-none c.in_ok-text.text c.args.self.now.notations (last_columns c.args.self.now) (c.in_ok-text.ensures.notations ∙ ap (λ (p : Physical). p.notations) c.self.view_is) (c.in_ok-text.ensures.text ∙ ap printed_names c.columns.ensures)) in
    let p = err_from_is_err_and c.from_residual-in_err-finish.result c.from_residual-in_err-finish.ensures.1 in
    let base : IsRunFault c.in_err-finish.field-0.0 =
    elim (c.in_err-finish.ensures c.args.self.now.notations all.stages all.after all.sides all.main all.fits all.stands) [
      | inl memory ↦ subst IsRunFault (sym memory) tt
      | inr made ↦ runs c.in_err-finish.field-0.0 (subst (λ (r : Result Frame Fault). IfErr r IsOfMeaning) made (sound-outcome all.stages all.sides all.main all.sound))
    ] in
    subst (λ (r : Result (PrintedText × Report) Fault). IfErr r IsRunFault) (sym p.1) (subst IsRunFault (sym p.2) base)

pub returns-in_err-finish-clause-read : goal.returns-in_err-finish-clause-read
returns-in_err-finish-clause-read g c =
    let all = c.in_ok-tail.ensures.gathered c.args.self.now.notations
    (prints-none c.in_ok-text.text c.args.self.now.notations (last_columns c.args.self.now) (c.in_ok-text.ensures.notations ∙ ap (λ (p : Physical). p.notations) c.self.view_is) (c.in_ok-text.ensures.text ∙ ap printed_names c.columns.ensures)) in
    let p = err_from_is_err_and c.from_residual-in_err-finish.result c.from_residual-in_err-finish.ensures.1 in
    let files = vec_len c.args.inputs in
    let base : NamesFile files c.in_err-finish.field-0.0 =
    elim (c.in_err-finish.ensures c.args.self.now.notations all.stages all.after all.sides all.main all.fits all.stands) [
      | inl memory ↦ subst (NamesFile files) (sym memory) tt
      | inr made ↦ reads files c.in_err-finish.field-0.0 (subst (λ (r : Result Frame Fault). IfErr r IsOfMeaning) made (sound-outcome all.stages all.sides all.main all.sound))
    ] in
    subst (λ (r : Result (PrintedText × Report) Fault). IfErr r (NamesFile files)) (sym p.1) (subst (NamesFile files) (sym p.2) base)

-- what the threads did
abbrev gathered : (g : Over) (c : In_ok-text-2 g) → HasGathered {S = Printing g.row.T.Denot} (Prints c.args.self.now.notations) g.R.Read.remaining c.args.inputs.items c.args.self.now c.args.batch_size c.in_ok-tail.tail c.in_ok-tail.report.trace.items
gathered g c =
    c.in_ok-tail.ensures.gathered c.args.self.now.notations
    (prints-none c.in_ok-text.text c.args.self.now.notations (last_columns c.args.self.now) (c.in_ok-text.ensures.notations ∙ ap (λ (p : Physical). p.notations) c.self.view_is) (c.in_ok-text.ensures.text ∙ ap printed_names c.columns.ensures))

-- the text is that of the outcome
framed : (g : Over) (c : In_ok-text-2 g) (files : List (List ℕ)) → Tell g.R.Read.remaining c.args.inputs.items files →
    (frame : Frame) × (outcome_of_run c.args.self.now (file_streams c.args.self.now files) ≡ Ok frame) × (text_of c.in_ok-text-2.text ≡ printed_in c.args.self.now.notations frame)
framed g c files tell =
    let all = gathered g c in
    let made = c.in_ok-finish.ensures c.args.self.now.notations all.stages all.after all.sides all.main all.fits all.stands in
    (made.0, sym (all.outcome files tell) ∙ made.1.0, c.in_ok-text-2.ensures ∙ made.1.1.1)

pub returns-clause-frame : goal.returns-clause-frame
returns-clause-frame g c files tell = framed g c files tell

pub returns-clause-trace : goal.returns-clause-trace
returns-clause-trace g c files tell =
    (gathered g c).trace files tell (subst (λ (r : Result Frame Fault). IsOk r) (sym (framed g c files tell).1) refl)
