-- A plan, by its sources with their schemas, its leading row-wise steps and the stages after them, as a physical plan.
use Rattle.std.proofs.Common.{◌≡◌, ◌+◌, ◌≤◌, List, [], ◌∷◌, ◌++◌, map, length, Option, Some, None, Result, Ok, Err, refl, ap, sym, ◌∙◌, subst, arith, append-nil}
use Rattle.std.specs.Prelude.{IsOk}
use Rattle.std.specs.Result.{result_map_both}
use Rattle.std.proofs.lemmas.List.{length-map, map-append}
use Rattle.fq_column.specs.Frame.{Fields}
use Rattle.fq_expr.specs.Front.{NumberedSteps}
use Rattle.fq_expr.specs.Kinds.{steps_schema}
use Rattle.fq_expr.specs.Steps.{fields_after_all}
use Rattle.fq_language.specs.Judged.{checked, judged, judged_steps, source_refusal}
use Rattle.fq_language.specs.Plan.{PlanStep, row_wise, PlanData, IsWithinLimits, files_wanted, side_fields, main_fields}
use Rattle.fq_csv.specs.Sources.{Source, but_last, last_or}
use Rattle.fq_notation.specs.declared.notations.Notation.{Notation}
use Rattle.fq_plan.specs.Needed.{needed_before_steps, needed_columns}
use Rattle.fq_plan.specs.Stages.{columns_of, leading_stage, narrowed, plan_of, query_of, stage_steps, whole_source, IsChecked, Leads}
use Rattle.fq_run.specs.Physical.{Physical}
use Rattle.fq_csv.specs.declared.sources.TheConstants.{MAX_FILES}
use Rattle.fq_csv.specs.Sources.{source_of_files}
use Rattle.fq_column.specs.Agreement.{marked}
use Rattle.fq_run.specs.Stages.{physical_of, Fit, IsRunnable}
use Rattle.fq_language.specs.declared.faults.CheckFault.{CheckFault}
use Rattle.fq_csv.specs.declared.sources.SourceFiles.{SourceFiles}
use Rattle.fq_run.specs.declared.stages.Stage.{Stage}
use Rattle.fq_plan.proofs.CheckLemmas.{refusal_in, no-refusal, rows-passed, stages-passed, step-passed}
use Rattle.fq_plan.proofs.StageMeaning.{fits}
use Rattle.fq_plan.proofs.WholeSourceLemmas.{judged-whole, wanted-whole}
use Rattle.fq_csv.proofs.LastLemmas.{but_last-snoc, last_or-snoc}
use Rattle.fq_run.proofs.StageLemmas.{fields-after-all}

-- ---- the judgement of a plan, by that of its sources and of its steps

abbrev pub judged_by : PlanData → Option CheckFault → Result (List Fields) CheckFault → Result PlanData CheckFault
judged_by p o r = result_map_both (λ schemas. p) (λ refusal. refusal) (let all : Result (List Fields) CheckFault = elim o [ Some refusal ↦ Err refusal | None ↦ r ] in all)

abbrev pub steps_judged : PlanData → Result (List Fields) CheckFault
steps_judged p = judged_steps (side_fields p) 0 (main_fields p) p.steps

pub source-refuses : (p : PlanData) (e : CheckFault) → source_refusal 0 p.sources ≡ Some e → checked p ≡ Err e
source-refuses p e h = ap (λ o. judged_by p o (steps_judged p)) h

pub step-refuses : (p : PlanData) (e : CheckFault) → source_refusal 0 p.sources ≡ None → steps_judged p ≡ Err e → checked p ≡ Err e
step-refuses p e h g = ap (λ o. judged_by p o (steps_judged p)) h ∙ ap (λ r. judged_by p None r) g

pub plan-passes : (p : PlanData) → source_refusal 0 p.sources ≡ None → refusal_in (steps_judged p) ≡ None → IsOk (judged p)
plan-passes p h g = no-refusal (judged p) (ap (λ o. refusal_in (let all : Result (List Fields) CheckFault = elim o [ Some refusal ↦ Err refusal | None ↦ steps_judged p ] in all)) h ∙ g)

ok-is : (p : PlanData) (r : Result (List Fields) CheckFault) → IsOk r → result_map_both (λ schemas. p) (λ refusal. refusal) r ≡ Ok p
ok-is p (Ok schemas) h = refl
ok-is p (Err e) h = absurd (cc)

-- ---- the sources before the last, and the last

module _ (sides : List SourceFiles) (main : SourceFiles) where
  fields-of : (xs : List SourceFiles) → map (λ (s : Source). s.fields) (map source_of_files xs) ≡ columns_of xs
  fields-of [] = refl
  fields-of (x ∷ xs) = ap (λ fs. x.layout.schema ∷ fs) (fields-of xs)

  -- below, they are the sources of the plan
  module _ (p : PlanData) (parts : map source_of_files (sides ++ main ∷ []) ≡ p.sources) where
    side-columns : side_fields p ≡ columns_of sides
    side-columns =
        ap (λ ss. map (λ (s : Source). s.fields) (but_last ss)) (sym parts ∙ map-append source_of_files sides (main ∷ []))
        ∙ ap (map (λ (s : Source). s.fields)) (but_last-snoc (map source_of_files sides) (source_of_files main))
        ∙ fields-of sides

    main-columns : main_fields p ≡ main.layout.schema
    main-columns =
        ap (λ ss. last_or [] (map (λ (s : Source). s.fields) ss)) (sym parts)
        ∙ ap (last_or []) (fields-of (sides ++ main ∷ []) ∙ map-append (λ (s : SourceFiles). s.layout.schema) sides (main ∷ []))
        ∙ last_or-snoc [] (columns_of sides) main.layout.schema

    pub steps-refuse : (e : CheckFault) → source_refusal 0 p.sources ≡ None → judged_steps (columns_of sides) 0 main.layout.schema p.steps ≡ Err e → checked p ≡ Err e
    steps-refuse e s h = step-refuses p e s ((λ i. judged_steps (side-columns i) 0 (main-columns i) p.steps) ∙ h)

    -- the columns that the plan needs
    pub needed-is : (steps : List PlanStep) → steps ≡ p.steps → marked (needed_before_steps (columns_of sides) main.layout.schema steps) main.layout.schema ≡ needed_columns p
    needed-is steps e = λ i. marked (needed_before_steps (sym side-columns i) (sym main-columns i) (e i)) (sym main-columns i)

  -- ---- a plan that is not refused

  module _ (front : NumberedSteps) (stages : List Stage) (notations : List Notation) (mid after : Fields) (leads : Leads (columns_of sides) 0 main.layout.schema (leading_stage front mid ∷ stages) after) where
    abbrev pub plan : Physical
    plan = physical_of (sides ++ main ∷ []) front stages notations

    -- the columns after the leading steps, and the stages after these
    pub columns : mid ≡ fields_after_all front.fields front.steps
    columns = sym (ap (λ fs. fields_after_all fs front.steps) leads.1.0 ∙ fields-after-all main.layout.schema mid front.steps leads.1.2)

    to-mid : steps_schema (main_fields (plan_of plan)) front.steps ≡ Ok mid
    to-mid = ap (λ fs. steps_schema fs front.steps) (main-columns (plan_of plan) refl) ∙ leads.1.2

    further : Leads (side_fields (plan_of plan)) (length front.steps) mid stages after
    further =
        let count : 0 + length (map row_wise front.steps) ≡ length front.steps = omega (arith, length-map front.steps row_wise) in
        subst (λ n. Leads (side_fields (plan_of plan)) n mid stages after) count
        (subst (λ js. Leads js (0 + length (map row_wise front.steps)) mid stages after) (sym (side-columns (plan_of plan) refl)) leads.2)

    pub prepared : source_refusal 0 (map source_of_files (sides ++ main ∷ [])) ≡ None → plan.sources ≡ narrowed (needed_columns (query_of plan)) (query_of plan).sources →
        IsWithinLimits (query_of plan) → IsChecked plan
    prepared passed sources limits = record { limits = limits; sources = sources; schemas = passed; leads = (mid, after, to-mid, further) }

    pub runnable : IsWithinLimits (query_of plan) → IsRunnable (sides ++ main ∷ []) front stages (files_wanted (plan_of plan))
    runnable limits = record {
      some_source = omega (arith, limits.some_source, length-map (map source_of_files (sides ++ main ∷ [])) whole_source, length-map (sides ++ main ∷ []) source_of_files);
      inputs_wanted = refl;
      few_files = subst (λ n. n ≤ MAX_FILES) (wanted-whole (plan_of plan)) limits.few_files;
      from_first = leads.1.1;
      on_main = leads.1.0 ∙ sym (main-columns (plan_of plan) refl);
      fits = (
        after,
        subst (λ fs. Fit (side_fields (plan_of plan)) fs stages after) (sym (fields-after-all (main_fields (plan_of plan)) mid front.steps to-mid))
            (fits (side_fields (plan_of plan)) (length front.steps) mid stages after further),
      );
    }

-- what a checked plan holds is not refused
pub checked-passes : (p : Physical) → IsChecked p → IsOk (judged (query_of p))
checked-passes p c =
    let q : PlanData = plan_of p in
    let js : List Fields = side_fields q in
    let whole : judged (query_of p) ≡ judged q = judged-whole q in
    subst (λ (r : Result (List Fields) CheckFault). IsOk r) (sym whole) (plan-passes q c.schemas
    (rows-passed js refusal_in (step-passed js) 0 (main_fields q) p.front (stage_steps p.stages) c.leads.0 c.leads.2
    ∙ ap (λ n. refusal_in (judged_steps js n c.leads.0 (stage_steps p.stages))) (let e : 0 + length p.front ≡ length p.front = omega arith in e)
    ∙ ap (λ ss. refusal_in (judged_steps js (length p.front) c.leads.0 ss)) (sym (append-nil (stage_steps p.stages)))
    ∙ stages-passed js refusal_in (step-passed js) (length p.front) c.leads.0 p.stages [] c.leads.1 c.leads.3))

pub checked-is : (p : Physical) → IsChecked p → checked (query_of p) ≡ Ok (query_of p)
checked-is p c = ok-is (query_of p) (judged (query_of p)) (checked-passes p c)
