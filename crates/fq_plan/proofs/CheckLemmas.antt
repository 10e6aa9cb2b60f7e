-- What the check has judged so far, and what is left to judge.
use Rattle.std.proofs.Common.{◌≡◌, ℕ, zero, suc, ◌+◌, List, [], ◌∷◌, ◌++◌, map, length, pos, string_bytes, Option, Some, None, Result, Ok, Err, refl, ap, sym, ◌∙◌, subst, inl, inr, arith, append_assoc, append-nil, length-append}
use Rattle.std.specs.Prelude.{IsOk, slice_index_or, slice_set}
use Rattle.std.specs.Result.{result_map_both}
use Rattle.std.proofs.lemmas.List.{length-map, map-append}
use Rattle.fq_column.specs.declared.faults.StepFault.{StepFault}
use Rattle.fq_column.specs.Frame.{Fields, names_of}
use Rattle.fq_column.specs.Refusal.{first_refusal, and_then, IsJudgement}
use Rattle.fq_column.specs.Schema.{schema_checks}
use Rattle.fq_expr.specs.Expression.{Step}
use Rattle.fq_expr.specs.Front.{NumberedSteps}
use Rattle.fq_expr.specs.Kinds.{step_schema, steps_schema}
use Rattle.fq_ops.specs.AggregateData.{outputs_of}
use Rattle.fq_language.specs.Judged.{judged_step, judged_steps, refused_at, source_refusal}
use Rattle.fq_language.specs.Plan.{PlanStep, row_wise, join, group_by, rolling_sum}
use Rattle.fq_csv.specs.Sources.{Source, last_or}
use Rattle.fq_plan.specs.Stages.{columns_after, operator_steps, stage_steps, stages_of, Leads, LowersTo}
use Rattle.fq_plan.specs.declared.checks.steps.PassedSteps.{PassedSteps}
use Rattle.fq_language.specs.declared.faults.CheckFault.{CheckFault}
use Rattle.fq_language.specs.declared.faults.Place.TheVariants as place
use Rattle.fq_run.specs.declared.operators.Operator.{Operator}
use Rattle.fq_run.specs.declared.operators.Operator.TheVariants.{Rows, Join, GroupBy, RollingSum}
use Rattle.fq_run.specs.declared.stages.Stage.{Stage}
use Rattle.fq_csv.proofs.LastLemmas.{last_or-snoc}
use Rattle.fq_language.proofs.RefusalLemmas.{or_later, step_then}

-- ---- judgements

module _ {X : Type 0} where
  pub judged-ok : (r : Result X StepFault) (x : X) → IsJudgement r (Ok x) → r ≡ Ok x
  judged-ok r x (inl e) = sym e
  judged-ok r x (inr e) = absurd (cc)

-- ---- sources

abbrev pub source_checks : Source → Option StepFault
source_checks s = first_refusal (schema_checks (names_of s.fields))

-- if no source of the first ones is refused, the next ones are judged
pub source_refusal-append : (n : ℕ) (xs ys : List Source) → source_refusal n xs ≡ None → source_refusal n (xs ++ ys) ≡ source_refusal (n + length xs) ys
source_refusal-append n [] ys e = ap (λ m. source_refusal m ys) (let q : n ≡ n + 0 = omega arith in q)
source_refusal-append n (x ∷ xs) ys e = go (source_checks x) (source_refusal-append (n + 1) xs ys) e
  where
    go : (o : Option StepFault) → (source_refusal (n + 1) xs ≡ None → source_refusal (n + 1) (xs ++ ys) ≡ source_refusal (n + 1 + length xs) ys) →
        or_later n o (source_refusal (n + 1) xs) ≡ None → or_later n o (source_refusal (n + 1) (xs ++ ys)) ≡ source_refusal (n + suc (length xs)) ys
    go (Some code) ih h = absurd (cc)
    go None ih h = ih h ∙ ap (λ m. source_refusal m ys) (let q : n + 1 + length xs ≡ n + suc (length xs) = omega arith in q)

pub sources-passed : (xs : List Source) (x : Source) → source_refusal 0 xs ≡ None → source_checks x ≡ None → source_refusal 0 (xs ++ x ∷ []) ≡ None
sources-passed xs x e h = source_refusal-append 0 xs (x ∷ []) e ∙ ap (λ o. or_later (0 + length xs) o None) h

pub source-refused : (xs : List Source) (x : Source) (rest : List Source) (code : StepFault) → source_refusal 0 xs ≡ None → source_checks x ≡ Some code →
    source_refusal 0 (xs ++ x ∷ rest) ≡ Some (refused_at (place.Source (length xs)) code)
source-refused xs x rest code e h =
    source_refusal-append 0 xs (x ∷ rest) e
    ∙ ap (λ o. or_later (0 + length xs) o (source_refusal (0 + length xs + 1) rest)) h
    ∙ ap (λ n. Some (refused_at (place.Source n) code)) (let q : 0 + length xs ≡ length xs = omega arith in q)

-- ---- steps

pub schema-further : (fields : Fields) (xs : List Step) (x : Step) (mid after : Fields) → steps_schema fields xs ≡ Ok mid → step_schema mid x ≡ Ok after → steps_schema fields (xs ++ x ∷ []) ≡ Ok after
schema-further fields [] x mid after e h = ap (λ f. steps_schema f (x ∷ [])) (let q : fields ≡ mid = cc in q) ∙ ap (λ r. and_then r (λ f. Ok f)) h
schema-further fields (y ∷ xs) x mid after e h = go (step_schema fields y) (λ f. schema-further f xs x mid after) e
  where
    go : (r : Result Fields StepFault) → ((f : Fields) → steps_schema f xs ≡ Ok mid → step_schema mid x ≡ Ok after → steps_schema f (xs ++ x ∷ []) ≡ Ok after) →
        and_then r (λ f. steps_schema f xs) ≡ Ok mid → and_then r (λ f. steps_schema f (xs ++ x ∷ [])) ≡ Ok after
    go (Err code) ih g = absurd (cc)
    go (Ok f) ih g = ih f g h

pub stage_steps-snoc : (stages : List Stage) (s : Stage) → stage_steps (stages ++ s ∷ []) ≡ stage_steps stages ++ operator_steps s.operator
stage_steps-snoc [] s = append-nil (operator_steps s.operator)
stage_steps-snoc (x ∷ stages) s =
    ap (λ ss. operator_steps x.operator ++ ss) (stage_steps-snoc stages s) ∙ sym (append_assoc (operator_steps x.operator) (stage_steps stages) (operator_steps s.operator))

-- the refusal, if there is one
abbrev pub refusal_in : {X E : Type 0} → Result X E → Option E
refusal_in (Ok x) = None
refusal_in (Err e) = Some e

module _ {X E : Type 0} where
  pub refusal-is : (r : Result X E) (e : E) → refusal_in r ≡ Some e → r ≡ Err e
  refusal-is (Ok x) e h = absurd (cc)
  refusal-is (Err f) e h = cc

  pub no-refusal : (r : Result X E) → refusal_in r ≡ None → IsOk r
  no-refusal (Ok x) h = refl
  no-refusal (Err f) h = absurd (cc)

  pub refusal-mapped : (f : X → X) (r : Result X E) → refusal_in (result_map_both f (λ e. e) r) ≡ refusal_in r
  refusal-mapped f (Ok x) = refl
  refusal-mapped f (Err e) = refl

-- below, `sides` are the columns of the sources before the last
module _ (sides : List Fields) where
  pub step-passed : (n : ℕ) (fields : Fields) (s : PlanStep) (rest : List PlanStep) (after : Fields) → judged_step sides fields s ≡ Ok after →
      refusal_in (judged_steps sides n fields (s ∷ rest)) ≡ refusal_in (judged_steps sides (n + 1) after rest)
  step-passed n fields s rest after e =
      ap (λ r. refusal_in (step_then n fields r (λ mid. judged_steps sides (n + 1) mid rest))) e
      ∙ refusal-mapped (λ rest. fields ∷ rest) (judged_steps sides (n + 1) after rest)

  pub step-refused : (n : ℕ) (fields : Fields) (s : PlanStep) (rest : List PlanStep) (code : StepFault) → judged_step sides fields s ≡ Err code →
      judged_steps sides n fields (s ∷ rest) ≡ Err (refused_at (place.Step n) code)
  step-refused n fields s rest code e = ap (λ r. step_then n fields r (λ mid. judged_steps sides (n + 1) mid rest)) e

  -- below, what is asked of a judgement stays the same after a step that was judged
  module _ {Y : Type 0} (ask : Result (List Fields) CheckFault → Y)
      (further : (n : ℕ) (fields : Fields) (s : PlanStep) (rest : List PlanStep) (after : Fields) → judged_step sides fields s ≡ Ok after →
      ask (judged_steps sides n fields (s ∷ rest)) ≡ ask (judged_steps sides (n + 1) after rest)) where
    -- row-wise steps, and what follows them
    pub rows-passed : (n : ℕ) (fields : Fields) (xs : List Step) (rest : List PlanStep) (after : Fields) → steps_schema fields xs ≡ Ok after →
        ask (judged_steps sides n fields (map row_wise xs ++ rest)) ≡ ask (judged_steps sides (n + length xs) after rest)
    rows-passed n fields [] rest after e =
        ap (λ f. ask (judged_steps sides n f rest)) (let q : fields ≡ after = cc in q)
        ∙ ap (λ m. ask (judged_steps sides m after rest)) (let q : n ≡ n + 0 = omega arith in q)
    rows-passed n fields (x ∷ xs) rest after e = go (step_schema fields x) refl (λ mid. rows-passed (n + 1) mid xs rest after) e
      where
        go : (r : Result Fields StepFault) → step_schema fields x ≡ r →
            ((mid : Fields) → steps_schema mid xs ≡ Ok after → ask (judged_steps sides (n + 1) mid (map row_wise xs ++ rest)) ≡ ask (judged_steps sides (n + 1 + length xs) after rest)) →
            and_then r (λ mid. steps_schema mid xs) ≡ Ok after →
            ask (judged_steps sides n fields (row_wise x ∷ (map row_wise xs ++ rest))) ≡ ask (judged_steps sides (n + suc (length xs)) after rest)
        go (Err code) q ih h = absurd (cc)
        go (Ok mid) q ih h =
            further n fields (row_wise x) (map row_wise xs ++ rest) mid q ∙ ih mid h
            ∙ ap (λ m. ask (judged_steps sides m after rest)) (let q : n + 1 + length xs ≡ n + suc (length xs) = omega arith in q)

    operator-passed : (n : ℕ) (fields : Fields) (o : Operator) (rest : List PlanStep) (after : Fields) → LowersTo sides n fields o after →
        ask (judged_steps sides n fields (operator_steps o ++ rest)) ≡ ask (judged_steps sides (n + length (operator_steps o)) after rest)
    operator-passed n fields (Rows front) rest after t =
        rows-passed n fields front.steps rest after t.2
        ∙ ap (λ k. ask (judged_steps sides (n + k) after rest)) (sym (length-map front.steps row_wise))
    operator-passed n fields (Join j) rest after t = further n fields (join (pos j.source) (map string_bytes j.on.items) j.how j.nulls_equal) rest after t
    operator-passed n fields (GroupBy g) rest after t = further n fields (group_by (map string_bytes g.keys.items) (outputs_of g.aggs.items)) rest after t
    operator-passed n fields (RollingSum r) rest after t = further n fields (rolling_sum (string_bytes r.column) (pos r.window) (pos r.min_samples) (string_bytes r.name)) rest after t

    -- stages, and what follows them
    pub stages-passed : (n : ℕ) (fields : Fields) (stages : List Stage) (rest : List PlanStep) (after : Fields) → Leads sides n fields stages after →
        ask (judged_steps sides n fields (stage_steps stages ++ rest)) ≡ ask (judged_steps sides (n + length (stage_steps stages)) after rest)
    stages-passed n fields [] rest after h =
        ap (λ f. ask (judged_steps sides n f rest)) h
        ∙ ap (λ m. ask (judged_steps sides m after rest)) (let q : n ≡ n + 0 = omega arith in q)
    stages-passed n fields (s ∷ stages) rest after h =
        let steps = operator_steps s.operator in
        ap (λ ss. ask (judged_steps sides n fields ss)) (append_assoc steps (stage_steps stages) rest)
        ∙ operator-passed n fields s.operator (stage_steps stages ++ rest) s.after h.1
        ∙ stages-passed (n + length steps) s.after stages rest after h.2
        ∙ ap (λ m. ask (judged_steps sides m after rest)) (omega (arith, length-append steps (stage_steps stages)))

  pub stages-refused : (n : ℕ) (fields : Fields) (stages : List Stage) (s : PlanStep) (rest : List PlanStep) (mid : Fields) (code : StepFault) → Leads sides n fields stages mid →
      judged_step sides mid s ≡ Err code → judged_steps sides n fields (stage_steps stages ++ (s ∷ rest)) ≡ Err (refused_at (place.Step (n + length (stage_steps stages))) code)
  stages-refused n fields stages s rest mid code h e =
      refusal-is (judged_steps sides n fields (stage_steps stages ++ (s ∷ rest))) (refused_at (place.Step (n + length (stage_steps stages))) code)
      (stages-passed refusal_in step-passed n fields stages (s ∷ rest) mid h ∙ ap refusal_in (step-refused (n + length (stage_steps stages)) mid s rest code e))

  -- one more stage
  pub leads-further : (n : ℕ) (fields : Fields) (stages : List Stage) (mid : Fields) (s : Stage) (m : ℕ) → Leads sides n fields stages mid →
      m ≡ n + length (stage_steps stages) → s.number ≡ m → LowersTo sides m mid s.operator s.after → Leads sides n fields (stages ++ s ∷ []) s.after
  leads-further n fields [] mid s m h q number turns =
      let here : m ≡ n = omega (arith, q) in (
        number ∙ here,
        subst (λ k. LowersTo sides k fields s.operator s.after) here (subst (λ f. LowersTo sides m f s.operator s.after) (sym h) turns),
        refl,
      )
  leads-further n fields (x ∷ stages) mid s m h q number turns =
      let steps = operator_steps x.operator in (
        h.0,
        h.1,
        leads-further (n + length steps) x.after stages mid s m h.2 (omega (arith, q, length-append steps (stage_steps stages))) number turns,
      )

  -- the stages before the last lead to the columns that it takes
  leads-last : (n : ℕ) (fields : Fields) (stages : List Stage) (s : Stage) (after : Fields) → Leads sides n fields (stages ++ s ∷ []) after →
      (mid : Fields) × Leads sides n fields stages mid × (s.number ≡ n + length (stage_steps stages)) × LowersTo sides (n + length (stage_steps stages)) mid s.operator s.after
  leads-last n fields [] s after h =
      let here : n ≡ n + 0 = omega arith in
      (fields, refl, h.0 ∙ here, subst (λ m. LowersTo sides m fields s.operator s.after) here h.1)
  leads-last n fields (x ∷ stages) s after h =
      let steps = operator_steps x.operator in
      let l = leads-last (n + length steps) x.after stages s after h.2 in
      let count : n + length steps + length (stage_steps stages) ≡ n + length (steps ++ stage_steps stages) = omega (arith, length-append steps (stage_steps stages)) in
      (l.0, (h.0, h.1, l.1), l.2 ∙ count, subst (λ m. LowersTo sides m l.0 s.operator s.after) count l.3)

  -- below, the last stage is of row-wise steps
  module _ (n : ℕ) (fields : Fields) (stages : List Stage) (s : Stage) (front : NumberedSteps) (rows : s.operator ≡ Rows front) (after : Fields) (leads : Leads sides n fields (stages ++ s ∷ []) after) where
    taken : (mid : Fields) × Leads sides n fields stages mid × (s.number ≡ n + length (stage_steps stages)) × LowersTo sides (n + length (stage_steps stages)) mid (Rows front) s.after
    taken = subst (λ (o : Operator). (mid : Fields) × Leads sides n fields stages mid × (s.number ≡ n + length (stage_steps stages)) × LowersTo sides (n + length (stage_steps stages)) mid o s.after) rows (leads-last n fields stages s after leads)

    pub rows-number : front.first + length front.steps ≡ n + length (stage_steps (stages ++ s ∷ []))
    rows-number =
        omega (arith, taken.3.1, ap length (stage_steps-snoc stages s), length-append (stage_steps stages) (operator_steps s.operator), ap (λ (o : Operator). length (operator_steps o)) rows, length-map front.steps row_wise)

    pub rows-schema : steps_schema front.fields front.steps ≡ Ok s.after
    rows-schema = ap (λ fs. steps_schema fs front.steps) taken.3.0 ∙ taken.3.2

    -- below, there is one more
    module _ (more : NumberedSteps) (x : Step) (is : more ≡ record front { steps = front.steps ++ x ∷ [] }) (last : Fields) where
      abbrev pub with-rows : Stage
      with-rows = record { number = s.number; operator = Rows more; after = last }

      pub rows-steps : stage_steps (stages ++ with-rows ∷ []) ≡ stage_steps (stages ++ s ∷ []) ++ row_wise x ∷ []
      rows-steps =
          stage_steps-snoc stages with-rows
          ∙ ap (λ (f : NumberedSteps). stage_steps stages ++ map row_wise f.steps) is
          ∙ ap (λ ss. stage_steps stages ++ ss) (map-append row_wise front.steps (x ∷ []) ∙ ap (λ (o : Operator). operator_steps o ++ row_wise x ∷ []) (sym rows))
          ∙ sym (append_assoc (stage_steps stages) (operator_steps s.operator) (row_wise x ∷ []))
          ∙ ap (λ ss. ss ++ row_wise x ∷ []) (sym (stage_steps-snoc stages s))

      pub rows-further : steps_schema more.fields more.steps ≡ Ok last → Leads sides n fields (stages ++ with-rows ∷ []) last
      rows-further e =
          let takes : more.fields ≡ taken.0 = ap (λ (f : NumberedSteps). f.fields) is ∙ taken.3.0 in
          leads-further n fields stages taken.0 with-rows (n + length (stage_steps stages)) taken.1 refl taken.2
          (takes, ap (λ (f : NumberedSteps). f.first) is ∙ taken.3.1, ap (λ fs. steps_schema fs more.steps) (sym takes) ∙ e)

-- ---- steps that passed, and one more

-- stages that end in one, and the same with another in its place
pub ends-in : (ss : List Stage) (s t : Stage) (m : ℕ) → suc m ≡ length ss → s ≡ slice_index_or ss m s → (before : List Stage) × (ss ≡ before ++ s ∷ []) × (slice_set ss m t ≡ before ++ t ∷ [])
ends-in [] s t m some is = absurd (omega (arith, some))
ends-in (x ∷ []) s t zero some is = ([], ap (λ y. y ∷ []) (sym is), refl)
ends-in (x ∷ []) s t (suc m) some is = absurd (omega (arith, some))
ends-in (x ∷ y ∷ ss) s t zero some is = absurd (omega (arith, some))
ends-in (x ∷ y ∷ ss) s t (suc m) some is =
    let rest = ends-in (y ∷ ss) s t m (omega (arith, some)) is in
    (x ∷ rest.0, ap (λ zs. x ∷ zs) rest.1, ap (λ zs. x ∷ zs) rest.2)

pub same-last : (ss : List Stage) (s : Stage) (m : ℕ) → suc m ≡ length ss → s ≡ slice_index_or ss m s → slice_set ss m s ≡ ss
same-last ss s m some is = let e = ends-in ss s s m some is in e.2 ∙ sym e.1

pub columns-last : (d : Fields) (before : List Stage) (s : Stage) → last_or d (map (λ (t : Stage). t.after) (before ++ s ∷ [])) ≡ s.after
columns-last d before s = ap (last_or d) (map-append (λ (t : Stage). t.after) before (s ∷ [])) ∙ last_or-snoc d (map (λ (t : Stage). t.after) before) s.after

-- a stage
pub stage-further : (sides : List Fields) (p : PassedSteps) (s : Stage) → s.number ≡ length (stage_steps (stages_of p)) → LowersTo sides s.number (columns_after p) s.operator s.after → (main : Fields) →
    Leads sides 0 main (stages_of p) (columns_after p) →
    Leads sides 0 main (stages_of p ++ s ∷ []) (last_or p.after_leading (map (λ (t : Stage). t.after) (p.stages.items ++ s ∷ [])))
stage-further sides p s number turns main h =
    subst (λ (f : Fields). Leads sides 0 main (stages_of p ++ s ∷ []) f) (sym (columns-last p.after_leading p.stages.items s))
    (leads-further sides 0 main (stages_of p) (columns_after p) s s.number h (omega (arith, number)) refl turns)
