-- What a run's clauses come to: the frame of a plan over files, or why there is none.
use Rattle.std.proofs.lemmas.List.{length-map}
use Rattle.std.proofs.Common.{◌≡◌, ℕ, Bool, true, false, List, [], length, Option, Some, None, Result, Ok, Err, refl, ap, sym, ◌∙◌, inl, inr}
use Rattle.std.specs.Prelude.{◌⊎◌, ◌==◌}
use Rattle.std.specs.Result.{result_map_both}
use Rattle.fq_column.specs.Frame.{Frame}
use Rattle.fq_plan.specs.Meaning.{meaning}
use Rattle.fq_language.specs.Plan.{PlanData, files_wanted}
use Rattle.fq_language.specs.Judged.{checked, judged}
use Rattle.fq_language.specs.Spelling.{read_as_plan}
use Rattle.fq_language.specs.declared.faults.CheckFault.{CheckFault}
use Rattle.fq_language.specs.declared.faults.PlanFault.{PlanFault}
use Rattle.fq_language.proofs.PlainLemmas.{spelled-plain}
use Rattle.fq_run.specs.Run.{start_refusal, IsStartFault, IsOfMeaning, Tell}
use Rattle.fq_language.specs.Plan.{file_streams}
use Rattle.fq_run.specs.declared.faults.Fault.{Fault}
use Rattle.fq_run.specs.declared.faults.Fault.TheVariants.{Inputs}
use Rattle.fq_messages.specs.Ending.{IsOutside}
use Rattle.fq_program.specs.Program.{AreSettings, checked_plan, frame_of}
use Rattle.fq_messages.specs.declared.failures.Failure.{Failure}
use Rattle.fq_messages.specs.declared.failures.Failure.TheVariants.{Check, Plan, Run}
use Rattle.fq_messages.proofs.EndingLemmas.{kind-of-fault}

-- why a run does not start
abbrev pub start_at : ℕ → ℕ → PlanData → List (List ℕ) → Option Fault
start_at batch_size workers p files = start_refusal (files_wanted p) (length files) batch_size workers

-- a result of a run that is its refusal at the start, if there is one
abbrev pub StopsAsRefused : {X : Type 0} → ℕ → ℕ → PlanData → List (List ℕ) → Result X Fault → Type 0
StopsAsRefused batch_size workers p files r = (f : Fault) → start_at batch_size workers p files ≡ Some f → r ≡ Err f

stops : (batch_size workers : ℕ) (p : PlanData) (files : List (List ℕ)) → (length files == files_wanted p) ≡ false →
    start_at batch_size workers p files ≡ Some (Inputs (files_wanted p) (length files))
stops batch_size workers p files e = rw e refl

starts : (batch_size workers : ℕ) (p : PlanData) (files : List (List ℕ)) → (length files == files_wanted p) ≡ true → AreSettings batch_size workers →
    start_at batch_size workers p files ≡ None
starts batch_size workers p files e fine = rw e fine

refuses : (p : PlanData) (files : List (List ℕ)) → (length files == files_wanted p) ≡ false → frame_of p files ≡ Err (Run (Inputs (files_wanted p) (length files)))
refuses p files e = rw e refl

runs : (p : PlanData) (files : List (List ℕ)) → (length files == files_wanted p) ≡ true →
    frame_of p files ≡ result_map_both (λ frame. frame) Run (meaning p (file_streams p files))
runs p files e = rw e refl

-- as many readers as files
pub as-many : {R : Type 0} (remaining : R → Option (List ℕ)) (readers : List R) (files : List (List ℕ)) → Tell remaining readers files → length readers ≡ length files
as-many remaining readers files tell = sym (length-map readers remaining) ∙ ap length tell ∙ length-map files Some

-- a run that ends well
pub run-printed : {X : Type 0} (batch_size workers : ℕ) (p : PlanData) (files : List (List ℕ)) (x : X) (frame : Frame) →
    StopsAsRefused batch_size workers p files (Ok x) → meaning p (file_streams p files) ≡ Ok frame → frame_of p files ≡ Ok frame
run-printed batch_size workers p files x frame refused meant = go (length files == files_wanted p) refl
  where
    go : (b : Bool) → (length files == files_wanted p) ≡ b → frame_of p files ≡ Ok frame
    go true e = runs p files e ∙ ap (result_map_both (λ frame. frame) Run) meant
    go false e = let bad = refused (Inputs (files_wanted p) (length files)) (stops batch_size workers p files e) in absurd (cc)

-- a run that ends in a fault
pub run-failed : {X : Type 0} (batch_size workers : ℕ) (p : PlanData) (files : List (List ℕ)) (f : Fault) → AreSettings batch_size workers →
    (let r : Result X Fault = Err f in StopsAsRefused batch_size workers p files r) → (IsStartFault f → start_at batch_size workers p files ≡ Some f) →
    (IsOfMeaning f → meaning p (file_streams p files) ≡ Err f) → (frame_of p files ≡ Err (Run f)) ⊎ IsOutside (Run f)
run-failed batch_size workers p files f fine refused started meant = go (length files == files_wanted p) refl
  where
    go : (b : Bool) → (length files == files_wanted p) ≡ b → (frame_of p files ≡ Err (Run f)) ⊎ IsOutside (Run f)
    go true e = elim (kind-of-fault f) [
      | inl start ↦ let bad = sym (starts batch_size workers p files e fine) ∙ started start in absurd (cc)
      | inr rest ↦ elim rest [
        | inl of_meaning ↦ inl (runs p files e ∙ ap (result_map_both (λ frame. frame) Run) (meant of_meaning))
        | inr outside ↦ inr outside
      ]
    ]
    go false e =
        let same = refused (Inputs (files_wanted p) (length files)) (stops batch_size workers p files e) in
        let is : f ≡ Inputs (files_wanted p) (length files) = cc in
        inl (refuses p files e ∙ ap (λ g. Err (Run g)) (sym is))

-- a plan that is checked is itself
checked-same : (p q : PlanData) → checked p ≡ Ok q → p ≡ q
checked-same p q e = go (judged p) e
  where
    go : {S : Type 0} (r : Result S CheckFault) → result_map_both (λ schemas. p) (λ refusal. refusal) r ≡ Ok q → p ≡ q
    go (Ok schemas) f = cc
    go (Err refusal) f = absurd (cc)

-- a plan that a text spells says of no column how its ints are written
pub checked-plain : (text : List ℕ) (p : PlanData) → checked_plan text ≡ Ok p → p.notations ≡ []
checked-plain text p e = by (read_as_plan text) refl e
  where
    there : (q : PlanData) → read_as_plan text ≡ Ok q → (r : Result PlanData CheckFault) → checked q ≡ r → result_map_both (λ p. p) Check r ≡ Ok p → p.notations ≡ []
    there q is (Err f) is_checked e = absurd (cc)
    there q is (Ok c) is_checked e = let one : c ≡ p = cc in ap (λ (r : PlanData). r.notations) (sym one ∙ sym (checked-same q c is_checked)) ∙ spelled-plain text q is

    by : (r : Result PlanData PlanFault) → read_as_plan text ≡ r → elim r as (λ _. Result PlanData Failure) [ Err fault ↦ Err (Plan fault) | Ok plan ↦ result_map_both (λ p. p) Check (checked plan) ] ≡ Ok p → p.notations ≡ []
    by (Err fault) is e = absurd (cc)
    by (Ok q) is e = there q is (checked q) refl e
