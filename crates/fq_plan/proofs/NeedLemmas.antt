-- The columns that steps need, by the operators that do the steps.
use Rattle.std.proofs.Common.{◌≡◌, ℕ, suc, ◌+◌, ◌≤◌, Bool, true, false, cond, ◌||◌, List, [], ◌∷◌, ◌++◌, map, take, length, pos, string_bytes, Option, Some, None, Result, Ok, Err, refl, ap, sym, ◌∙◌, arith}
use Rattle.std.specs.Prelude.{option_map, slice_get}
use Rattle.std.specs.List.{list_any, position}
use Rattle.std.specs.Option.{is_some}
use Rattle.std.specs.Result.{result_unwrap_or}
use Rattle.std.proofs.lemmas.List.{length-map, take_all}
use Rattle.fq_column.specs.Agreement.{marked}
use Rattle.fq_column.specs.declared.faults.StepFault.{StepFault}
use Rattle.fq_column.specs.Frame.{Fields, Name, has_name, names_of}
use Rattle.fq_column.specs.Refusal.{and_then}
use Rattle.fq_column.proofs.PutLemmas.{position-cons}
use Rattle.fq_expr.specs.Expression.{Step}
use Rattle.fq_expr.specs.Kinds.{step_schema, steps_schema}
use Rattle.fq_expr.proofs.OperandLemmas.{slice_get-map}
use Rattle.fq_language.specs.Judged.{judged_step}
use Rattle.fq_language.specs.Plan.{PlanStep, row_wise, join, group_by, rolling_sum}
use Rattle.fq_ops.specs.AggregateData.{outputs_of}
use Rattle.fq_ops.proofs.JudgedFieldLemmas.{take-more}
use Rattle.fq_plan.specs.Needed.{needed_before_all, needed_before_step, needed_before_steps}
use Rattle.fq_plan.specs.Stages.{columns_after, operator_steps, stage_steps, stages_of, Leads, LowersTo}
use Rattle.fq_plan.specs.declared.checks.steps.PassedSteps.{PassedSteps}
use Rattle.fq_run.specs.declared.operators.Operator.{Operator}
use Rattle.fq_run.specs.declared.operators.Operator.TheVariants.{Rows, Join, GroupBy, RollingSum}
use Rattle.fq_run.specs.declared.stages.Stage.{Stage}

-- steps, and those after them
pub before-append : (xs ys : List PlanStep) (needed : List Name) → needed_before_all (xs ++ ys) needed ≡ needed_before_all xs (needed_before_all ys needed)
before-append [] ys needed = refl
before-append (x ∷ xs) ys needed = ap (λ ns. needed_before_step x ns) (before-append xs ys needed)

-- below, `sides` are the columns of the sources before the last
module _ (sides : List Fields) where
  step-before : (fields : Fields) (s : PlanStep) (rest : List PlanStep) (after : Fields) → judged_step sides fields s ≡ Ok after →
      needed_before_steps sides fields (s ∷ rest) ≡ needed_before_step s (needed_before_steps sides after rest)
  step-before fields s rest after e = ap (λ (r : Result Fields StepFault). needed_before_step s (needed_before_steps sides (result_unwrap_or r fields) rest)) e

  rows-before : (fields : Fields) (xs : List Step) (rest : List PlanStep) (after : Fields) → steps_schema fields xs ≡ Ok after →
      needed_before_steps sides fields (map row_wise xs ++ rest) ≡ needed_before_all (map row_wise xs) (needed_before_steps sides after rest)
  rows-before fields [] rest after e = ap (λ f. needed_before_steps sides f rest) (let q : fields ≡ after = cc in q)
  rows-before fields (x ∷ xs) rest after e = go (step_schema fields x) refl (λ mid. rows-before mid xs rest after) e
    where
      go : (r : Result Fields StepFault) → step_schema fields x ≡ r →
          ((mid : Fields) → steps_schema mid xs ≡ Ok after → needed_before_steps sides mid (map row_wise xs ++ rest) ≡ needed_before_all (map row_wise xs) (needed_before_steps sides after rest)) →
          and_then r (λ mid. steps_schema mid xs) ≡ Ok after →
          needed_before_steps sides fields (row_wise x ∷ (map row_wise xs ++ rest)) ≡ needed_before_step (row_wise x) (needed_before_all (map row_wise xs) (needed_before_steps sides after rest))
      go (Err code) q ih h = absurd (cc)
      go (Ok mid) q ih h = step-before fields (row_wise x) (map row_wise xs ++ rest) mid q ∙ ap (λ ns. needed_before_step (row_wise x) ns) (ih mid h)

  operator-before : (n : ℕ) (fields : Fields) (o : Operator) (rest : List PlanStep) (after : Fields) → LowersTo sides n fields o after →
      needed_before_steps sides fields (operator_steps o ++ rest) ≡ needed_before_all (operator_steps o) (needed_before_steps sides after rest)
  operator-before n fields (Rows front) rest after t = rows-before fields front.steps rest after t.2
  operator-before n fields (Join j) rest after t = step-before fields (join (pos j.source) (map string_bytes j.on.items) j.how j.nulls_equal) rest after t
  operator-before n fields (GroupBy g) rest after t = step-before fields (group_by (map string_bytes g.keys.items) (outputs_of g.aggs.items)) rest after t
  operator-before n fields (RollingSum r) rest after t = step-before fields (rolling_sum (string_bytes r.column) (pos r.window) (pos r.min_samples) (string_bytes r.name)) rest after t

  pub stages-before : (n : ℕ) (fields : Fields) (stages : List Stage) (after : Fields) → Leads sides n fields stages after →
      needed_before_steps sides fields (stage_steps stages) ≡ needed_before_all (stage_steps stages) (names_of after)
  stages-before n fields [] after h = ap names_of h
  stages-before n fields (s ∷ stages) after h =
      let steps = operator_steps s.operator in
      operator-before n fields s.operator (stage_steps stages) s.after h.1
      ∙ ap (λ ns. needed_before_all steps ns) (stages-before (n + length steps) s.after stages after h.2)
      ∙ sym (before-append steps (stage_steps stages) (names_of after))

-- ---- the marks of columns

-- one mark more
pub mark-more : (wanted : Name → Bool) (fields : Fields) (i : ℕ) (n : Name) → slice_get (names_of fields) i ≡ Some n →
    take (i + 1) (map wanted (names_of fields)) ≡ take i (map wanted (names_of fields)) ++ wanted n ∷ []
mark-more wanted fields i n e = take-more (map wanted (names_of fields)) i (wanted n) (slice_get-map wanted (names_of fields) i n e)

module _ (p : PassedSteps) where
  -- the columns that the steps need, by what is needed of the frame
  abbrev pub needed_of : List Name
  needed_of = needed_before_all (stage_steps (stages_of p)) (names_of (columns_after p))

  pub marks-are : (sides : List Fields) (main : Fields) → Leads sides 0 main (stages_of p) (columns_after p) →
      (k : ℕ) (marks : List Bool) → length p.leading.fields ≤ k → marks ≡ take k (map (has_name needed_of) (names_of p.leading.fields)) →
      marks ≡ marked (needed_before_steps sides main (stage_steps (stages_of p))) main
  marks-are sides main leads k marks le e =
      let all = map (has_name needed_of) (names_of p.leading.fields) in
      let count : length all ≤ k = omega (arith, le, length-map (names_of p.leading.fields) (has_name needed_of), length-map p.leading.fields (λ f. f.0)) in
      e ∙ take_all k all count ∙ (λ i. map (has_name (sym (stages-before sides 0 main (stages_of p) (columns_after p) leads) i)) (names_of (leads.1.0 i)))

-- a name that has a place
is_some-mapped : (o : Option ℕ) → is_some (option_map suc o) ≡ is_some o
is_some-mapped None = refl
is_some-mapped (Some n) = refl

pub is_some-position : {X : Type 0} (p : X → Bool) (xs : List X) → is_some (position p xs) ≡ list_any p xs
is_some-position p [] = refl
is_some-position p (x ∷ xs) = ap is_some (position-cons p x xs) ∙ go (p x) (is_some-position p xs)
  where
    go : (b : Bool) → is_some (position p xs) ≡ list_any p xs → is_some (cond b (Some 0) (option_map suc (position p xs))) ≡ (b || list_any p xs)
    go true h = refl
    go false h = is_some-mapped (position p xs) ∙ h
