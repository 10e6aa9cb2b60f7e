-- What a run of named files comes to, case by case, and what its clauses come to.
use Rattle.std.proofs.Common.{◌≡◌, ◌≢◌, ◌∙◌, ◌≤◌, ◌==◌, ℕ, Bool, true, false, List, [], length, Option, Some, None, Result, Ok, Err, OnOk, arith, refl, ap, sym, subst, inl, inr, eqb-true, eq-eqb}
use Rattle.std.specs.Prelude.{◌⊎◌, IfErr, IfSome, MatchResult}
use Rattle.std.specs.Result.{result_map_both}
use Rattle.std.specs.Io.KnownBytes.{Appends, Keeps}
use Rattle.std.proofs.KnownBytes.{Keeps-refl}
use Rattle.std.proofs.lemmas.Bool.{le-leb}
use Rattle.fq_column.specs.Frame.{Frame}
use Rattle.fq_notation.specs.Notation.{Named}
use Rattle.fq_plan.specs.Noted.{noted, notation_refusal}
use Rattle.fq_plan.specs.declared.noted.NotationFault.{NotationFault}
use Rattle.fq_csv.specs.Printed.{printed_in}
use Rattle.fq_language.specs.Plan.{PlanData, files_wanted}
use Rattle.fq_run.specs.Run.{Tell}
use Rattle.fq_run.specs.declared.faults.Fault.TheVariants.{Inputs, Memory, Write}
use Rattle.fq_shell.specs.Arguments.{Names, plan_text}
use Rattle.fq_shell.specs.declared.files.OpenFault.{OpenFault}
use Rattle.fq_shell.specs.declared.files.OpenFault.TheVariants as opening
use Rattle.fq_messages.specs.Ending.{IsOutside, code_of, done, no_memory, number_of, status_of, unnoted, unplaced}
use Rattle.fq_messages.proofs.EndingLemmas.{ended-well}
use Rattle.fq_messages.specs.declared.status.Status.TheVariants.{BadDevice, NoMemory}
use Rattle.fq_messages.specs.declared.failures.Failure.{Failure}
use Rattle.fq_messages.specs.declared.failures.Failure.TheVariants.{Run}
use Rattle.fq_program.specs.Program.{AreSettings, checked_plan, frame_of}
use Rattle.fq_program.specs.Named.{AnswersBy, EndsAt, RunEnds, IsGuarded, IsLeft, IsPlaced, Leaves, LeavesPlan, OnlyChanges, check_of, early_failure, names_refusal, notations_of, noted_plan, outcome_of, plan_in, planned, refusal_of, reviewed, text_over, written}

-- ---- the plan

pub planned-named : (names : Names) (text : List ℕ) (f : Failure) → names_refusal names ≡ Some f → planned names text ≡ Err f
unfolding planned
planned-named names text f named = rw (named, planned) refl

pub planned-fine : (names : Names) (text : List ℕ) (named : List Named) → names_refusal names ≡ None → named ≡ notations_of names →
    planned names text ≡ plan_in text named (length names.files)
unfolding planned
planned-fine names text named apart is = rw (apart, is, planned) refl

pub plan-refused : (text : List ℕ) (named : List Named) (n : ℕ) (f : Failure) → checked_plan text ≡ Err f → plan_in text named n ≡ Err f
unfolding plan_in
plan-refused text named n f refused = rw (refused, plan_in) refl

pub plan-checked : (text : List ℕ) (named : List Named) (n : ℕ) (plan : PlanData) → checked_plan text ≡ Ok plan → plan_in text named n ≡ noted_plan plan named n
unfolding plan_in
plan-checked text named n plan checked = rw (checked, plan_in) refl

-- by the number of its files, and by its notations
pub wrong-number : (plan : PlanData) (named : List Named) (n : ℕ) → n ≢ files_wanted plan → noted_plan plan named n ≡ Err (Run (Inputs (files_wanted plan) n))
unfolding noted_plan
wrong-number plan named n differs = go (n == files_wanted plan) refl
  where
    go : (b : Bool) → (n == files_wanted plan) ≡ b → noted_plan plan named n ≡ Err (Run (Inputs (files_wanted plan) n))
    go true e = absurd (differs (eqb-true _ _ e))
    go false e = rw (e, noted_plan) refl

pub wrong-notations : (plan : PlanData) (named : List Named) (n : ℕ) (fault : NotationFault) → n ≡ files_wanted plan → notation_refusal plan named ≡ Some fault →
    noted_plan plan named n ≡ Err (unnoted fault)
unfolding noted_plan
wrong-notations plan named n fault same refused = rw (eq-eqb _ _ same, refused, noted_plan) refl

pub right-notations : (plan : PlanData) (named : List Named) (n : ℕ) → n ≡ files_wanted plan → notation_refusal plan named ≡ None → noted_plan plan named n ≡ Ok (noted named plan)
unfolding noted_plan
right-notations plan named n same fine = rw (eq-eqb _ _ same, fine, noted_plan) refl

pub noted-is : (plan p : PlanData) (named : List Named) (n : ℕ) → noted_plan plan named n ≡ Ok p → (n ≡ files_wanted plan) × (p ≡ noted named plan)
unfolding noted_plan
noted-is plan p named n e = count (n == files_wanted plan) refl
  where
    told : (r : Option NotationFault) → notation_refusal plan named ≡ r → n ≡ files_wanted plan → (n ≡ files_wanted plan) × (p ≡ noted named plan)
    told None fine same = let one : Result PlanData Failure = Ok (noted named plan) in let is : one ≡ Ok p = sym (right-notations plan named n same fine) ∙ e in (same, cc)
    told (Some fault) refused same = let bad : Err (unnoted fault) ≡ Ok p = sym (wrong-notations plan named n fault same refused) ∙ e in absurd (cc)

    count : (b : Bool) → (n == files_wanted plan) ≡ b → (n ≡ files_wanted plan) × (p ≡ noted named plan)
    count true same = told (notation_refusal plan named) refl (eqb-true _ _ same)
    count false differs = let bad : Err (Run (Inputs (files_wanted plan) n)) ≡ Ok p = sym (wrong-number plan named n (λ same. let off = eq-eqb _ _ same in absurd (cc))) ∙ e in absurd (cc)

-- ---- what it comes to

pub check-of : (names : Names) (text : List ℕ) (files : List (List ℕ)) (plan : Result PlanData Failure) → planned names text ≡ plan → check_of names text files ≡ reviewed plan files
unfolding check_of
check-of names text files plan is = ap (λ p. reviewed p files) is

-- why there is no plan
pub named-fails : (names : Names) (text : List ℕ) (f : Failure) → (names_refusal names ≡ Some f) ⊎ IsOutside f → (planned names text ≡ Err f) ⊎ IsOutside f
named-fails names text f why = elim why [ inl named ↦ inl (planned-named names text f named) | inr outside ↦ inr outside ]

pub plan-fails : (names : Names) (text : List ℕ) (named : List Named) (f : Failure) → names_refusal names ≡ None → named ≡ notations_of names →
    (plan_in text named (length names.files) ≡ Err f) ⊎ IsOutside f → (planned names text ≡ Err f) ⊎ IsOutside f
plan-fails names text named f apart is why = elim why [ inl refused ↦ inl (planned-fine names text named apart is ∙ refused) | inr outside ↦ inr outside ]

pub check-fails : (names : Names) (text : List ℕ) (files : List (List ℕ)) (f : Failure) → (planned names text ≡ Err f) ⊎ IsOutside f → (check_of names text files ≡ Err f) ⊎ IsOutside f
check-fails names text files f why = elim why [ inl refused ↦ inl (check-of names text files (Err f) refused) | inr outside ↦ inr outside ]

-- ---- a run of a checked plan

-- settings in their ranges
pub settings-in-range : (batch_size workers : ℕ) → 1 ≤ batch_size → batch_size ≤ 65536 → 1 ≤ workers → workers ≤ 16 → AreSettings batch_size workers
settings-in-range batch_size workers a b c d = rw (le-leb 1 batch_size a, le-leb batch_size 65536 b, le-leb 1 workers c, le-leb workers 16 d) refl

-- how it ended over files, with a text in place of the frame
text-is : (p : PlanData) (files : List (List ℕ)) (frame : Frame) → frame_of p files ≡ Ok frame → text_over p files ≡ Ok (printed_in p.notations frame)
text-is p files frame is = ap (result_map_both (printed_in p.notations) (λ failure. failure)) is

text-fails : (p : PlanData) (files : List (List ℕ)) (f : Failure) → (frame_of p files ≡ Err f) ⊎ IsOutside f → (text_over p files ≡ Err f) ⊎ IsOutside f
text-fails p files f why = elim why [ inl same ↦ inl (ap (result_map_both (printed_in p.notations) (λ failure. failure)) same) | inr outside ↦ inr outside ]

pub text-ends : {X : Type 0} (p : PlanData) (files : List (List ℕ)) (P : List ℕ → Type 0) (r : Result X Failure) →
    OnOk r ((frame : Frame) × (frame_of p files ≡ Ok frame) × P (printed_in p.notations frame)) → IfErr r (λ f. (frame_of p files ≡ Err f) ⊎ IsOutside f) →
    MatchResult r (λ _. (text : List ℕ) × (text_over p files ≡ Ok text) × P text) (λ f. (text_over p files ≡ Err f) ⊎ IsOutside f)
text-ends p files P (Ok x) printed failed = (printed_in p.notations printed.0, text-is p files printed.0 printed.1, printed.2)
text-ends p files P (Err f) printed failed = text-fails p files f failed

-- the text was appended to the output
pub left-here : {X : Type 0} (outcome : Result (List ℕ) Failure) (file before after : Option (List ℕ)) (known known_after : List ℕ → Option (List ℕ)) (r : Result X Failure) →
    file ≡ None → MatchResult r (λ _. (text : List ℕ) × (outcome ≡ Ok text) × Appends before after text) (λ f. (outcome ≡ Err f) ⊎ IsOutside f) →
    Leaves outcome file before after known known_after r
left-here outcome file before after known known_after (Ok x) none h = (h.0, h.1, record { here = λ _. h.2; there = λ name some. absurd (cc) })
left-here outcome file before after known known_after (Err f) none h = h

-- or is in the place of a file
pub left-there : {X : Type 0} (outcome : Result (List ℕ) Failure) (file before after : Option (List ℕ)) (known known_after : List ℕ → Option (List ℕ)) (name : List ℕ) (empty : Type 0) (r : Result X Failure) →
    file ≡ Some name → ((bytes : List ℕ) → known name ≡ Some bytes → empty) →
    MatchResult r (λ _. (text : List ℕ) × (outcome ≡ Ok text) × (empty → IsPlaced known known_after name text)) (λ f. (outcome ≡ Err f) ⊎ IsOutside f) →
    Leaves outcome file before after known known_after r
left-there outcome file before after known known_after name empty (Err f) some told h = h
left-there outcome file before after known known_after name empty (Ok x) some told h = (
  h.0,
  h.1,
  record {
    here = λ none. absurd (cc);
    there = λ other is bytes was. let same : other ≡ name = cc in rw same (h.2 (told bytes (rw same at was)) bytes (rw same at was));
  },
)

-- no file has changed
unchanged : (file : Option (List ℕ)) (known known_after : List ℕ → Option (List ℕ)) → known_after ≡ known → OnlyChanges file known known_after
unchanged file known known_after same = λ name bytes other was. ap (λ k. k name) same ∙ was

-- whatever it came to
module _ {X : Type 0} (file : Option (List ℕ)) (known known_after : List ℕ → Option (List ℕ)) where
  pub guarded-here : (before after : Option (List ℕ)) (r : Result X Failure) → file ≡ None → known_after ≡ known → IfErr r (λ f. f ≢ Run Write → Keeps before after) → IsGuarded file before after known known_after r
  guarded-here before after r none same unwritten = record { elsewhere = λ some. absurd (cc); unwritten = unwritten; untouched = untouched r; others = unchanged file known known_after same }
    where
      untouched : (r : Result X Failure) → IfErr r (λ _. known_after ≡ known)
      untouched (Ok x) = tt
      untouched (Err f) = same

  pub guarded-there : (out : Option (List ℕ)) (r : Result X Failure) → IfErr r (λ _. known_after ≡ known) → OnlyChanges file known known_after → IsGuarded file out out known known_after r
  guarded-there out r untouched others = record { elsewhere = λ _. Keeps-refl out; unwritten = unwritten r; untouched = untouched; others = others }
    where
      unwritten : (r : Result X Failure) → IfErr r (λ f. f ≢ Run Write → Keeps out out)
      unwritten (Ok x) = tt
      unwritten (Err f) = λ _. Keeps-refl out

-- what was written is all that the file holds, which was empty
pub written-whole : (before after : Option (List ℕ)) (text : List ℕ) → Appends before after text → before ≡ Some [] → after ≡ Some text
written-whole None after text appends empty = absurd (cc)
written-whole (Some xs) None text appends empty = absurd appends
written-whole (Some xs) (Some ys) text appends empty = let none : xs ≡ [] = cc in ap Some (rw none at appends)

-- ---- what is known whatever the result is

pub on_ok_known : {X E P : Type 0} (r : Result X E) → P → OnOk r P
on_ok_known (Ok x) known = known
on_ok_known (Err e) known = tt

-- ---- failures of devices and allocations

pub outside-unplaced : (fault : OpenFault) → IsOutside (unplaced fault)
outside-unplaced opening.Memory = inr refl
outside-unplaced (opening.Failed error) = inl refl

pub outside-opened : (f failure : Failure) → status_of failure ≡ BadDevice → (f ≡ failure) ⊎ (f ≡ Run Memory) → IsOutside f
outside-opened f failure device why = elim why [ inl same ↦ inl (ap status_of same ∙ device) | inr memory ↦ inr (ap status_of memory) ]

pub outside-memory : (text other : List ℕ) (r : Result PlanData Failure) → other ≡ text →
    MatchResult r (λ plan. checked_plan other ≡ Ok plan) (λ f. (checked_plan other ≡ Err f) ⊎ (status_of f ≡ NoMemory)) →
    MatchResult r (λ plan. checked_plan text ≡ Ok plan) (λ f. (checked_plan text ≡ Err f) ⊎ IsOutside f)
outside-memory text other (Ok plan) same h = ap checked_plan (sym same) ∙ h
outside-memory text other (Err f) same h = elim h [ inl refused ↦ inl (ap checked_plan (sym same) ∙ refused) | inr memory ↦ inr (inr memory) ]

-- a run that was refused before it began
pub guarded-refused : (X : Type 0) (f : Failure) (file out : Option (List ℕ)) (known known_after : List ℕ → Option (List ℕ)) → known_after ≡ known →
    (let r : Result X Failure = Err f in IsGuarded file out out known known_after r)
guarded-refused X f file out known known_after same = guarded-there file known known_after out (Err f) same (unchanged file known known_after same)

-- ---- how a run of named files ends

-- it was refused
pub answers-refused : (X : Type 0) (plan : Result PlanData Failure) (f : Failure) (Holds : PlanData → Type 0) → (plan ≡ Err f) ⊎ IsOutside f → ((p : PlanData) → IsOutside f → Holds p) →
    (let r : Result X Failure = Err f in AnswersBy plan r Holds)
answers-refused X (Err g) f Holds (inl same) whatever = inl (cc)
answers-refused X (Err g) f Holds (inr outside) whatever = inr outside
answers-refused X (Ok p) f Holds (inl same) whatever = absurd (cc)
answers-refused X (Ok p) f Holds (inr outside) whatever = whatever p outside

-- or has a plan
pub answers-planned : {X : Type 0} (plan : Result PlanData Failure) (p : PlanData) (r : Result X Failure) (Holds : PlanData → Type 0) → plan ≡ Ok p → Holds p → AnswersBy plan r Holds
answers-planned plan p r Holds is holds = subst (λ (q : Result PlanData Failure). AnswersBy q r Holds) (sym is) holds

-- the status of what came from outside is that of any outcome
outside-ends : (code : ℕ) (f : Failure) → IsOutside f → EndsAt code (number_of (status_of f))
outside-ends code f outside = elim outside [ inl device ↦ inr (inl (ap number_of device)) | inr memory ↦ inr (inr (ap number_of memory)) ]

early-ends : {X : Type 0} (plan : Result PlanData Failure) (r : Result X Failure) (Holds : PlanData → Type 0) → AnswersBy plan r Holds →
    IfSome (refusal_of plan) (λ refusal. EndsAt (number_of (status_of refusal)) (code_of r))
early-ends (Ok p) r Holds h = tt
early-ends (Err f) (Ok x) Holds h = absurd h
early-ends (Err f) (Err g) Holds h = elim h [ inl same ↦ inl (ap (λ e. number_of (status_of e)) same) | inr outside ↦ outside-ends _ g outside ]

module _ {X : Type 0} (file before after : Option (List ℕ)) (known known_after : List ℕ → Option (List ℕ)) where
  leaves : (told : List (List ℕ) → Type 0) (plan : Result PlanData Failure) (r : Result X Failure) (files : List (List ℕ)) → told files →
      AnswersBy plan r (LeavesPlan told file before after known known_after r) → Leaves (written plan files) file before after known known_after r
  leaves told (Ok p) r files tell h = h files tell
  leaves told (Err f) (Ok x) files tell h = absurd h
  leaves told (Err f) (Err g) files tell h = elim h [ inl same ↦ inl (ap Err (sym same)) | inr outside ↦ inr outside ]

  left : (outcome : Result (List ℕ) Failure) (r : Result X Failure) → Leaves outcome file before after known known_after r →
      OnOk r ((text : List ℕ) × (outcome ≡ Ok text) × IsLeft file before after known known_after text)
  left outcome (Ok x) h = h
  left outcome (Err f) h = tt

  leaves-ends : (outcome : Result (List ℕ) Failure) (r : Result X Failure) → Leaves outcome file before after known known_after r → EndsAt (code_of outcome) (code_of r)
  leaves-ends outcome (Ok x) h = inl (sym (ap code_of h.1))
  leaves-ends outcome (Err f) h = elim h [ inl same ↦ inl (sym (ap code_of same)) | inr outside ↦ outside-ends _ f outside ]

-- the status says how it ended
module _ {X : Type 0} (names : Names) (known mid known_after : List ℕ → Option (List ℕ)) (out out_after err err_after : Option (List ℕ)) (r : Result X Failure) (ended : ℕ) where
  pub run-ends : ended ≡ code_of r → known_after ≡ mid →
      ((text : List ℕ) → plan_text known names ≡ Some text → AnswersBy (planned names text) r (LeavesPlan (Tell known names.files) names.output out out_after known mid r)) →
      IsGuarded names.output out out_after known mid r → OnOk r (Keeps err err_after) → RunEnds names known known_after out out_after err err_after ended
  unfolding early_failure outcome_of
  run-ends code same answers guarded quiet = record {
    early = λ text told. subst (λ n. IfSome (early_failure names text) (λ refusal. EndsAt (number_of (status_of refusal)) n)) (sym code) (early-ends (planned names text) r _ (answers text told));
    status = λ text files told tell. subst (EndsAt (code_of (outcome_of names text files))) (sym code) (leaves-ends _ _ _ _ _ _ r (ends text files told tell));
    output = λ text files told tell none well. let have = whole text files told tell well in (have.0, have.1, have.2.here none);
    placed = λ text files name told tell some well. let have = whole text files told tell well in (have.0, have.1, λ bytes was. ap (λ k. k name) same ∙ have.2.there name some bytes was);
    elsewhere = guarded.elsewhere;
    quiet = λ well. ended-well r (sym code ∙ well) quiet;
    others = λ name bytes other was. ap (λ k. k name) same ∙ guarded.others name bytes other was;
  }
    where
      ends : (text : List ℕ) (files : List (List ℕ)) → plan_text known names ≡ Some text → Tell known names.files files → Leaves (written (planned names text) files) names.output out out_after known mid r
      ends text files told tell = leaves _ _ _ _ _ (Tell known names.files) (planned names text) r files tell (answers text told)

      whole : (text : List ℕ) (files : List (List ℕ)) → plan_text known names ≡ Some text → Tell known names.files files → ended ≡ done →
          (frame : List ℕ) × (written (planned names text) files ≡ Ok frame) × IsLeft names.output out out_after known mid frame
      whole text files told tell well = ended-well r (sym code ∙ well) (left _ _ _ _ _ _ r (ends text files told tell))

pub ends-of-names : (one other : Names) (known known_after : List ℕ → Option (List ℕ)) (out out_after err err_after : Option (List ℕ)) (ended : ℕ) → one ≡ other →
    RunEnds one known known_after out out_after err err_after ended → RunEnds other known known_after out out_after err err_after ended
ends-of-names one other known known_after out out_after err err_after ended same ends =
    subst (λ (names : Names). RunEnds names known known_after out out_after err err_after ended) same ends

-- no memory was left for its arguments
any-early : (early : Option Failure) (status : ℕ) → ((code : ℕ) → EndsAt code status) → IfSome early (λ refusal. EndsAt (number_of (status_of refusal)) status)
any-early None status ends = tt
any-early (Some refusal) status ends = ends (number_of (status_of refusal))

pub unstarted : (names : Names) (known : List ℕ → Option (List ℕ)) (out err err_after : Option (List ℕ)) (ended : ℕ) → ended ≡ no_memory → RunEnds names known known out out err err_after ended
unstarted names known out err err_after ended is = record {
  early = λ text told. any-early _ ended (λ code. inr (inr is));
  status = λ text files told tell. inr (inr is);
  output = λ text files told tell none well. absurd (omega (arith, is, well));
  placed = λ text files name told tell some well. absurd (omega (arith, is, well));
  elsewhere = λ _. Keeps-refl out;
  quiet = λ well. absurd (omega (arith, is, well));
  others = unchanged names.output known known refl;
}
