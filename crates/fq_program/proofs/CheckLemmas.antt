-- What a check of named files comes to, case by case.
use Rattle.std.proofs.Common.{◌≡◌, ◌≢◌, ◌∙◌, ℕ, Bool, true, false, List, length, Option, Some, Result, Ok, Err, refl, ap, sym, subst, inl, inr}
use Rattle.std.proofs.lemmas.List.{length-map}
use Rattle.std.specs.Result.{result_map_both}
use Rattle.fq_csv.specs.declared.cells.layouts.Layout.{Layout}
use Rattle.fq_language.specs.Judged.{checked, judged}
use Rattle.fq_language.specs.declared.faults.CheckFault.{CheckFault}
use Rattle.fq_language.specs.declared.faults.PlanFault.{PlanFault}
use Rattle.fq_language.specs.Plan.{PlanData, file_layouts}
use Rattle.fq_language.specs.Spelling.{read_as_plan}
use Rattle.fq_notation.specs.Notation.{Named}
use Rattle.fq_plan.specs.Noted.{noted_layouts}
use Rattle.fq_plan.proofs.NotedLemmas.{layouts-noted}
use Rattle.fq_review.specs.Checked.{are_clean}
use Rattle.fq_run.specs.Run.{Tell}
use Rattle.fq_messages.specs.Ending.{code_of, number_of}
use Rattle.fq_messages.specs.Reviewed.{IsVerdict}
use Rattle.fq_messages.specs.declared.failures.Failure.{Failure}
use Rattle.fq_messages.specs.declared.failures.Failure.TheVariants.{Check, Plan, Problems}
use Rattle.fq_program.specs.Named.{ComesTo, EndsAt, noted_plan, plan_in, reviewed}
use Rattle.fq_program.specs.Program.{checked_plan}
use Rattle.fq_program.proofs.NamedLemmas.{noted-is, plan-checked, plan-refused}

-- as many names as files
pub many : (bytes_of : List ℕ → Option (List ℕ)) (names files : List (List ℕ)) → Tell bytes_of names files → length names ≡ length files
many bytes_of names files tell = sym (length-map names bytes_of) ∙ ap length tell ∙ length-map files Some

-- a plan in notations is that of a plan that passed the check
module _ (text : List ℕ) (named : List Named) (n : ℕ) (p : PlanData) where
  pub checked-in : plan_in text named n ≡ Ok p → (plan : PlanData) × (checked_plan text ≡ Ok plan) × (noted_plan plan named n ≡ Ok p)
  checked-in is = go (checked_plan text) refl
    where
      go : (r : Result PlanData Failure) → checked_plan text ≡ r → (plan : PlanData) × (checked_plan text ≡ Ok plan) × (noted_plan plan named n ≡ Ok p)
      go (Ok plan) e = (plan, e, sym (plan-checked text named n plan e) ∙ is)
      go (Err f) e = let bad : Err f ≡ Ok p = sym (plan-refused text named n f e) ∙ is in absurd (cc)

-- what a check of the files has answered is what it comes to
pub review-comes : {X : Type 0} (plan read p : PlanData) (named : List Named) (n : ℕ) (files : List (List ℕ)) (r : Result X Failure) → read ≡ plan → noted_plan plan named n ≡ Ok p →
    IsVerdict (are_clean (noted_layouts named read) files) r → ComesTo (reviewed (Ok p) files) r
review-comes {X} plan read p named n files r same is verdict =
    let layouts : noted_layouts named read ≡ file_layouts p = ap (noted_layouts named) same ∙ sym (layouts-noted named plan) ∙ ap file_layouts (sym (noted-is plan p named n is).1) in
    go (are_clean (file_layouts p) files) r refl (subst (λ (ls : List Layout). IsVerdict (are_clean ls files) r) layouts verdict)
  where
    ready : Result PlanData Failure
    ready = Ok p

    clean : (b : Bool) → are_clean (file_layouts p) files ≡ b → b ≡ true → reviewed ready files ≡ Ok tt
    clean b e right = rw (e ∙ right) refl

    problems : (b : Bool) → are_clean (file_layouts p) files ≡ b → b ≡ false → reviewed ready files ≡ Err Problems
    problems b e wrong = rw (e ∙ wrong) refl

    go : (b : Bool) (s : Result X Failure) → are_clean (file_layouts p) files ≡ b → IsVerdict b s → ComesTo (reviewed ready files) s
    go b (Ok x) e right = rw (clean b e right) refl
    go b (Err f) e why = elim why [
      | inl found ↦ inl (problems b e found.1 ∙ ap Err (sym found.0))
      | inr outside ↦ inr outside
    ]

spells : (text : List ℕ) (read : PlanData) → read_as_plan text ≡ Ok read → checked_plan text ≡ result_map_both (λ p. p) Check (checked read)
spells text read spelled = rw (spelled, checked_plan) refl

-- a text that passed the check can be read
pub reads : (text : List ℕ) (plan : PlanData) (fault : PlanFault) → checked_plan text ≡ Ok plan → read_as_plan text ≢ Err fault
reads text plan fault fine unread = let bad : Err (Plan fault) ≡ Ok plan = sym (rw (unread, checked_plan) refl) ∙ fine in absurd (cc)

mapped : {X : Type 0} (r : Result X CheckFault) (read plan : PlanData) → result_map_both (λ p. p) Check (result_map_both (λ _. read) (λ e. e) r) ≡ Ok plan → read ≡ plan
mapped (Ok x) read plan e = cc
mapped (Err f) read plan e = absurd (cc)

-- the plan that was read is the one that was checked
pub read-checked : (text : List ℕ) (read plan : PlanData) → read_as_plan text ≡ Ok read → checked_plan text ≡ Ok plan → read ≡ plan
read-checked text read plan spelled fine = mapped (judged read) read plan (sym (spells text read spelled) ∙ fine)

-- ---- the status

pub comes-ends : {X Y : Type 0} (outcome : Result X Failure) (r : Result Y Failure) → ComesTo outcome r → EndsAt (code_of outcome) (code_of r)
comes-ends (Ok x) (Ok y) h = inl refl
comes-ends (Err f) (Ok y) h = let bad : false ≡ true = h in absurd (cc)
comes-ends outcome (Err f) h = elim h [
  | inl same ↦ inl (sym (ap code_of same))
  | inr outside ↦ elim outside [ inl device ↦ inr (inl (ap number_of device)) | inr memory ↦ inr (inr (ap number_of memory)) ]
]
