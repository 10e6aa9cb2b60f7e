-- What is told of a refusal is that of the check: sources one after another, then steps.
use Rattle.std.proofs.Common.{◌≡◌, ℕ, ◌+◌, ◌-◌, List, [], ◌∷◌, ◌++◌, map, String, Global, string_bytes, Option, Some, None, Result, Ok, Err, refl, ap, sym, ◌∙◌, subst}
use Rattle.std.specs.Prelude.{IfErr, IfOk, IsErr, IsOk, IsSome, OnOk}
use Rattle.std.specs.Result.{result_map_both}
use Rattle.fq_column.specs.declared.cells.Kind.{Kind}
use Rattle.fq_column.specs.declared.faults.StepFault.{StepFault}
use Rattle.fq_column.specs.Frame.{Fields, Name, names_of}
use Rattle.fq_column.specs.Refusal.{first_refusal}
use Rattle.fq_column.specs.Schema.{fields_of, schema_checks}
use Rattle.fq_csv.specs.Sources.{Source, but_last, last_or}
use Rattle.fq_csv.proofs.LastLemmas.{but_last-map, but_last-snoc, last_or-snoc}
use Rattle.fq_language.specs.Explained.{WrongOnlyIf}
use Rattle.fq_language.specs.Judged.{judged, judged_step, judged_steps, refused_at, source_refusal}
use Rattle.fq_language.specs.Plan.{PlanData, PlanStep, main_fields, side_fields}
use Rattle.fq_language.specs.View.{field_of}
use Rattle.fq_language.specs.declared.faults.CheckFault.{CheckFault}
use Rattle.fq_language.specs.declared.faults.Place.TheVariants as place
use Rattle.fq_language.specs.declared.reasons.PartFault.{PartFault}
use Rattle.fq_language.specs.declared.reasons.PartFault.TheVariants.{Wrong, Memory}

-- ---- what is told

pub wrong-for : {P Q : Type 0} → (P → Q) → (fault : PartFault) → WrongOnlyIf P fault → WrongOnlyIf Q fault
wrong-for f (Wrong reason) h = f h
wrong-for f Memory h = tt

pub wrong-anyway : {P : Type 0} → P → (fault : PartFault) → WrongOnlyIf P fault
wrong-anyway h (Wrong reason) = h
wrong-anyway h Memory = tt

pub ok-for : {X P Q : Type 0} → (P → Q) → (r : Result X PartFault) → OnOk r P → OnOk r Q
ok-for f (Ok x) h = f h
ok-for f (Err fault) h = tt

pub err-for : {X P Q : Type 0} → (P → Q) → (r : Result X PartFault) → IfErr r (WrongOnlyIf P) → IfErr r (WrongOnlyIf Q)
err-for f (Ok x) h = tt
err-for f (Err fault) h = wrong-for f fault h

pub told : {X P : Type 0} → P → (r : Result X PartFault) → IfErr r (WrongOnlyIf P)
told h (Ok x) = tt
told h (Err fault) = wrong-anyway h fault

pub err-if-ok : {X E : Type 0} (P : X → Type 0) (r : Result X E) → IsErr r → IfOk r P
err-if-ok P (Ok x) h = absurd (cc)
err-if-ok P (Err e) h = tt

pub err-on-ok : {X E : Type 0} (P : Type 0) (r : Result X E) → IsErr r → OnOk r P
err-on-ok P (Ok x) h = absurd (cc)
err-on-ok P (Err e) h = tt

-- ---- the columns of a source

abbrev pub Columns : Type 0
Columns = List (String Global × Kind)

fields : (cs : Columns) → fields_of (map (λ c. string_bytes c.0) cs) (map (λ c. c.1) cs) ≡ map field_of cs
fields [] = refl
fields (c ∷ cs) = ap (λ fs. field_of c ∷ fs) (fields cs)

names : (cs : Columns) → names_of (map field_of cs) ≡ map (λ c. string_bytes c.0) cs
names [] = refl
names (c ∷ cs) = ap (λ ns. string_bytes c.0 ∷ ns) (names cs)

pub fields_of-columns : (cs : Columns) (ns : List Name) (ks : List Kind) → ns ≡ map (λ c. string_bytes c.0) cs → ks ≡ map (λ c. c.1) cs → fields_of ns ks ≡ map field_of cs
fields_of-columns cs ns ks e f = (λ i. fields_of (e i) (f i)) ∙ fields cs

pub names_of-columns : (cs : Columns) (ns : List Name) → ns ≡ map (λ c. string_bytes c.0) cs → names_of (map field_of cs) ≡ ns
names_of-columns cs ns e = names cs ∙ sym e

-- ---- sources

abbrev pub or_later : ℕ → Option StepFault → Option CheckFault → Option CheckFault
or_later n o later = elim o [ Some code ↦ Some (refused_at (place.Source n) code) | None ↦ later ]

pub source-refused : (n : ℕ) (s : Source) (rest : List Source) → IsSome (first_refusal (schema_checks (names_of s.fields))) → IsSome (source_refusal n (s ∷ rest))
source-refused n s rest h = go (first_refusal (schema_checks (names_of s.fields))) h
  where
    go : (o : Option StepFault) → IsSome o → IsSome (or_later n o (source_refusal (n + 1) rest))
    go (Some code) g = refl
    go None g = absurd (cc)

-- ---- steps

module _ {X E : Type 0} where
  ok-mapped : (f : X → X) (r : Result X E) → IsOk r → IsOk (result_map_both f (λ e. e) r)
  ok-mapped f (Ok x) h = refl
  ok-mapped f (Err e) h = absurd (cc)

-- the steps that are left, after a step that was judged
abbrev pub step_then : ℕ → Fields → Result Fields StepFault → (Fields → Result (List Fields) CheckFault) → Result (List Fields) CheckFault
step_then n fields r later = elim r [ Err code ↦ Err (refused_at (place.Step n) code) | Ok after ↦ result_map_both (λ rest. fields ∷ rest) (λ e. e) (later after) ]

-- below, `sides` are the columns of the sources before the last
module _ (sides : List Fields) (n : ℕ) (fields : Fields) (s : PlanStep) (rest : List PlanStep) where
  abbrev later : Fields → Result (List Fields) CheckFault
  later mid = judged_steps sides (n + 1) mid rest

  pub step-passed : (after : Fields) → judged_step sides fields s ≡ Ok after → IsOk (judged_steps sides (n + 1) after rest) → IsOk (judged_steps sides n fields (s ∷ rest))
  step-passed after e h = subst (λ r. IsOk (step_then n fields r later)) (sym e) (ok-mapped (λ rest. fields ∷ rest) (later after) h)

  pub step-refused : IsErr (judged_step sides fields s) → IsErr (judged_steps sides n fields (s ∷ rest))
  step-refused h = go (judged_step sides fields s) h
    where
      go : (r : Result Fields StepFault) → IsErr r → IsErr (step_then n fields r later)
      go (Ok after) g = absurd (cc)
      go (Err code) g = refl

-- ---- the sources before the last, and the last

-- below, the columns of a plan's sources are those of `sides`, and then `main`
module _ (p : PlanData) (sides : List Fields) (main : Fields) (parts : map (λ (s : Source). s.fields) p.sources ≡ sides ++ main ∷ []) where
  sides-are : side_fields p ≡ sides
  sides-are = sym (but_last-map (λ (s : Source). s.fields) p.sources) ∙ ap but_last parts ∙ but_last-snoc sides main

  main-is : main_fields p ≡ main
  main-is = ap (last_or []) parts ∙ last_or-snoc [] sides main

  abbrev judged_by : Option CheckFault → Result (List Fields) CheckFault
  judged_by o = elim o [ Some refusal ↦ Err refusal | None ↦ judged_steps (side_fields p) 0 (main_fields p) p.steps ]

  pub plan-judged : source_refusal 0 p.sources ≡ None → judged p ≡ judged_steps sides 0 main p.steps
  plan-judged passed = ap judged_by passed ∙ (λ i. judged_steps (sides-are i) 0 (main-is i) p.steps)

pub plan-refused : (p : PlanData) → IsSome (source_refusal 0 p.sources) → IsErr (judged p)
plan-refused p h = go (source_refusal 0 p.sources) h
  where
    go : (o : Option CheckFault) → IsSome o → (let r : Result (List Fields) CheckFault = elim o [ Some refusal ↦ Err refusal | None ↦ judged_steps (side_fields p) 0 (main_fields p) p.steps ] in IsErr r)
    go (Some refusal) g = refl
    go None g = absurd (cc)

pub judge-done : (p : PlanData) (sides : List Fields) (main : Fields) (steps : List PlanStep) → map (λ (s : Source). s.fields) p.sources ≡ sides ++ main ∷ [] → source_refusal 0 p.sources ≡ None → steps ≡ p.steps
    → judged p ≡ judged_steps sides 0 main steps
judge-done p sides main steps parts passed same = plan-judged p sides main parts passed ∙ ap (judged_steps sides 0 main) (sym same)
