-- The columns between the steps of a checked plan, and the notations along them.
use Rattle.std.proofs.Common.{◌≡◌, ◌⊎◌, inl, inr, ℕ, zero, suc, ◌+◌, ◌<◌, ◌≤◌, List, [], ◌∷◌, ◌++◌, map, drop, length, Option, Some, None, Result, Ok, Err, refl, ap, sym, subst, ◌∙◌, arith}
use Rattle.std.specs.Prelude.{option_map, slice_get, slice_index_or, zip}
use Rattle.std.specs.Result.{result_map_both, result_unwrap_or}
use Rattle.std.proofs.Math.Nat.{eq-or-lt_of_le}
use Rattle.std.proofs.lemmas.List.{length-map, drop-map}
use Rattle.std.proofs.lemmas.Option.{slice_get-map}
use Rattle.fq_column.specs.Frame.{Fields}
use Rattle.fq_column.specs.Refusal.{and_then}
use Rattle.fq_column.specs.declared.faults.StepFault.{StepFault}
use Rattle.fq_expr.specs.Expression.{Step}
use Rattle.fq_expr.specs.Kinds.{step_schema, steps_schema}
use Rattle.fq_expr.specs.Steps.{fields_after_each}
use Rattle.fq_language.specs.Judged.{judged, judged_step, judged_steps, source_refusal}
use Rattle.fq_language.specs.Plan.{PlanStep, PlanData, row_wise, main_fields, side_fields}
use Rattle.fq_language.specs.declared.faults.CheckFault.{CheckFault}
use Rattle.fq_language.proofs.RefusalLemmas.{step_then}
use Rattle.fq_notation.specs.Notation.{Named}
use Rattle.fq_notation.specs.declared.naming.StepUnnoted.{StepUnnoted}
use Rattle.fq_plan.specs.Followed.{and_followed, followed_by, notations_before, schemas_of, step_followed, steps_after, unnoted_at}
use Rattle.fq_plan.specs.Stages.{group_step, join_step, operator_schemas, operator_steps, plan_of, query_of, rolling_step, stage_schemas, stage_steps, IsChecked, Leads, LowersTo}
use Rattle.fq_plan.specs.declared.noted.NotationFault.{NotationFault}
use Rattle.fq_plan.proofs.WholeSourceLemmas.{judged-whole}
use Rattle.fq_run.specs.Physical.{Physical}
use Rattle.fq_run.specs.declared.operators.Operator.{Operator}
use Rattle.fq_run.specs.declared.operators.Operator.TheVariants.{Rows, Join, GroupBy, RollingSum}
use Rattle.fq_run.specs.declared.stages.Stage.{Stage}

-- ---- the columns before each step

-- below, `sides` are the columns of the sources before the last
module _ (sides : List Fields) where
  step-judged : (n : ℕ) (fields mid : Fields) (s : PlanStep) (rest : List PlanStep) (later : List Fields) → judged_step sides fields s ≡ Ok mid →
      judged_steps sides (n + 1) mid rest ≡ Ok (mid ∷ later) → judged_steps sides n fields (s ∷ rest) ≡ Ok (fields ∷ mid ∷ later)
  step-judged n fields mid s rest later e h =
      ap (λ r. step_then n fields r (λ mid. judged_steps sides (n + 1) mid rest)) e
      ∙ ap (λ (r : Result (List Fields) CheckFault). result_map_both (λ rest. fields ∷ rest) (λ e. e) r) h

  rows-judged : (n : ℕ) (fields after : Fields) (xs : List Step) (rest : List PlanStep) (later : List Fields) → steps_schema fields xs ≡ Ok after →
      judged_steps sides (n + length xs) after rest ≡ Ok (after ∷ later) →
      judged_steps sides n fields (map row_wise xs ++ rest) ≡ Ok (fields ∷ (fields_after_each fields xs ++ later))
  rows-judged n fields after [] rest later e h =
      let same : fields ≡ after = cc in
      ap (λ f. judged_steps sides n f rest) same
      ∙ ap (λ m. judged_steps sides m after rest) (let q : n ≡ n + 0 = omega arith in q)
      ∙ h ∙ ap (λ (f : Fields). Ok (f ∷ later)) (sym same)
  rows-judged n fields after (x ∷ xs) rest later e h =
      go (step_schema fields x) refl e (λ mid q. rows-judged (n + 1) mid after xs rest later q
      (subst (λ m. judged_steps sides m after rest ≡ Ok (after ∷ later)) (let q : n + suc (length xs) ≡ n + 1 + length xs = omega arith in q) h))
    where
      left : Fields → List Fields
      left mid = fields ∷ mid ∷ (fields_after_each mid xs ++ later)

      go : (r : Result Fields StepFault) → step_schema fields x ≡ r → and_then r (λ mid. steps_schema mid xs) ≡ Ok after →
          ((mid : Fields) → steps_schema mid xs ≡ Ok after → judged_steps sides (n + 1) mid (map row_wise xs ++ rest) ≡ Ok (mid ∷ (fields_after_each mid xs ++ later))) →
          judged_steps sides n fields (row_wise x ∷ (map row_wise xs ++ rest)) ≡ Ok (left (result_unwrap_or (step_schema fields x) fields))
      go (Err code) q g ih = absurd (cc)
      go (Ok mid) q g ih =
          step-judged n fields mid (row_wise x) (map row_wise xs ++ rest) (fields_after_each mid xs ++ later) q (ih mid g)
          ∙ ap (λ (r : Result Fields StepFault). Ok (left (result_unwrap_or r fields))) (sym q)

  operator-judged : (n : ℕ) (fields : Fields) (o : Operator) (after : Fields) (rest : List PlanStep) (later : List Fields) → LowersTo sides n fields o after →
      judged_steps sides (n + length (operator_steps o)) after rest ≡ Ok (after ∷ later) →
      judged_steps sides n fields (operator_steps o ++ rest) ≡ Ok (fields ∷ (operator_schemas o after ++ later))
  operator-judged n fields (Rows front) after rest later t h =
      rows-judged n fields after front.steps rest later t.2
      (subst (λ k. judged_steps sides (n + k) after rest ≡ Ok (after ∷ later)) (length-map front.steps row_wise) h)
      ∙ ap (λ (f : Fields). Ok (fields ∷ (fields_after_each f front.steps ++ later))) (sym t.0)
  operator-judged n fields (Join j) after rest later t h = step-judged n fields after (join_step j) rest later t h
  operator-judged n fields (GroupBy g) after rest later t h = step-judged n fields after (group_step g) rest later t h
  operator-judged n fields (RollingSum r) after rest later t h = step-judged n fields after (rolling_step r) rest later t h

  stages-judged : (n : ℕ) (fields : Fields) (stages : List Stage) (after : Fields) → Leads sides n fields stages after →
      judged_steps sides n fields (stage_steps stages) ≡ Ok (fields ∷ stage_schemas stages)
  stages-judged n fields [] after h = refl
  stages-judged n fields (s ∷ stages) after h =
      operator-judged n fields s.operator s.after (stage_steps stages) (stage_schemas stages) h.1
      (stages-judged (n + length (operator_steps s.operator)) s.after stages after h.2)

module _ (p : Physical) (c : IsChecked p) where
  -- the columns of a checked plan are those that its leading steps and its stages leave
  pub schemas-judged : judged (query_of p) ≡ Ok (main_fields (plan_of p) ∷ (fields_after_each (main_fields (plan_of p)) p.front ++ stage_schemas p.stages))
  schemas-judged =
      let q : PlanData = plan_of p in
      let sides : List Fields = side_fields q in
      let main : Fields = main_fields q in
      let mid : Fields = c.leads.0 in
      let judges : judged q ≡ judged_steps sides 0 main q.steps =
      ap (λ (o : Option CheckFault). let all : Result (List Fields) CheckFault = elim o [ Some refusal ↦ Err refusal | None ↦ judged_steps sides 0 main q.steps ] in all) c.schemas in
      let stages : judged_steps sides (0 + length p.front) mid (stage_steps p.stages) ≡ Ok (mid ∷ stage_schemas p.stages) =
      ap (λ n. judged_steps sides n mid (stage_steps p.stages)) (let e : 0 + length p.front ≡ length p.front = omega arith in e)
      ∙ stages-judged sides (length p.front) mid p.stages c.leads.1 c.leads.3 in
      judged-whole q ∙ judges ∙ rows-judged sides 0 main mid p.front (stage_steps p.stages) (stage_schemas p.stages) c.leads.2 stages

-- ---- the notations before each step

module _ (declared : List Named) (p : PlanData) where
  -- a refusal stays
  pub refused-before : (n m : ℕ) (f : NotationFault) → notations_before declared p n ≡ Err f → n ≤ m → notations_before declared p m ≡ Err f
  refused-before n zero f e h = ap (notations_before declared p) (let q : zero ≡ n = omega (arith, h) in q) ∙ e
  refused-before n (suc m) f e h = go (λ less. refused-before n m f e less) (eq-or-lt_of_le h)
    where
      go : (n ≤ m → notations_before declared p m ≡ Err f) → (n ≡ suc m) ⊎ (n < suc m) → notations_before declared p (suc m) ≡ Err f
      go before (inl same) = ap (notations_before declared p) (sym same) ∙ e
      go before (inr less) = ap (and_followed declared p m) (before (omega (arith, less)))

  -- the notations after a step that is there
  pub followed-there : {X : Type 0} (step : X → PlanStep) (steps : List X) (schemas : List Fields) (n : ℕ) (x : X) (fields : Fields) (named : List Named) →
      map step steps ≡ p.steps → judged p ≡ Ok schemas → slice_get steps n ≡ Some x → slice_index_or schemas n [] ≡ fields →
      followed_by declared p n named
      ≡ step_followed p.sources declared (zip (map step (drop (n + 1) steps)) (drop (n + 2) schemas)) (side_fields p) fields named (step x)
  followed-there step steps schemas n x fields named same judges there columns =
      let at : slice_get p.steps n ≡ Some (step x) = ap (λ ss. slice_get ss n) (sym same) ∙ slice_get-map step steps n ∙ ap (option_map step) there in
      let later : drop (n + 1) p.steps ≡ map step (drop (n + 1) steps) = ap (drop (n + 1)) (sym same) ∙ drop-map step (n + 1) steps in
      let all : schemas_of p ≡ schemas =
      ap (λ (r : Result (List Fields) CheckFault). let all : List Fields = elim r [ Err refusal ↦ [] | Ok schemas ↦ schemas ] in all) judges in
      let are : slice_index_or (schemas_of p) n [] ≡ fields = ap (λ (fs : List Fields). slice_index_or fs n []) all ∙ columns in
      ap (λ (o : Option PlanStep). let r : Result (List Named) StepUnnoted = elim o [ None ↦ Ok named | Some s ↦ step_followed p.sources declared (steps_after declared p n) (side_fields p) (slice_index_or (schemas_of p) n []) named s ] in r) at
      ∙ (λ i. step_followed p.sources declared (zip (later i) (drop (n + 2) (all i))) (side_fields p) (are i) named (step x))

  pub before-followed : (n : ℕ) (named after : List Named) → notations_before declared p n ≡ Ok named → followed_by declared p n named ≡ Ok after →
      notations_before declared p (suc n) ≡ Ok after
  before-followed n named after e h =
      ap (and_followed declared p n) e
      ∙ ap (λ (r : Result (List Named) StepUnnoted). let all : Result (List Named) NotationFault = elim r [ Err why ↦ Err (unnoted_at n why) | Ok after ↦ Ok after ] in all) h

  pub before-refused : (n : ℕ) (named : List Named) (why : StepUnnoted) → notations_before declared p n ≡ Ok named → followed_by declared p n named ≡ Err why →
      notations_before declared p (suc n) ≡ Err (unnoted_at n why)
  before-refused n named why e h =
      ap (and_followed declared p n) e
      ∙ ap (λ (r : Result (List Named) StepUnnoted). let all : Result (List Named) NotationFault = elim r [ Err why ↦ Err (unnoted_at n why) | Ok after ↦ Ok after ] in all) h

-- as many columns as steps, and one more
module _ (sides : List Fields) where
  length-judged : (n : ℕ) (fields : Fields) (steps : List PlanStep) (schemas : List Fields) → judged_steps sides n fields steps ≡ Ok schemas → length schemas ≡ suc (length steps)
  length-judged n fields [] schemas e = let same : fields ∷ [] ≡ schemas = cc in ap length (sym same)
  length-judged n fields (s ∷ steps) schemas e = go (judged_step sides fields s) e (λ mid rest. length-judged (n + 1) mid steps rest)
    where
      go : (r : Result Fields StepFault) → step_then n fields r (λ mid. judged_steps sides (n + 1) mid steps) ≡ Ok schemas →
          ((mid : Fields) (rest : List Fields) → judged_steps sides (n + 1) mid steps ≡ Ok rest → length rest ≡ suc (length steps)) → length schemas ≡ suc (suc (length steps))
      go (Err code) g ih = absurd (cc)
      go (Ok mid) g ih = last (judged_steps sides (n + 1) mid steps) refl g
        where
          last : (r : Result (List Fields) CheckFault) → judged_steps sides (n + 1) mid steps ≡ r → result_map_both (λ rest. fields ∷ rest) (λ e. e) r ≡ Ok schemas → length schemas ≡ suc (suc (length steps))
          last (Err f) q h = absurd (cc)
          last (Ok rest) q h = let same : fields ∷ rest ≡ schemas = cc in ap length (sym same) ∙ ap suc (ih mid rest q)

pub schemas-counted : (p : PlanData) (schemas : List Fields) → judged p ≡ Ok schemas → length schemas ≡ suc (length p.steps)
schemas-counted p schemas e = go (source_refusal 0 p.sources) e
  where
    go : (o : Option CheckFault) → (let all : Result (List Fields) CheckFault = elim o [ Some refusal ↦ Err refusal | None ↦ judged_steps (side_fields p) 0 (main_fields p) p.steps ] in all) ≡ Ok schemas →
        length schemas ≡ suc (length p.steps)
    go (Some refusal) h = absurd (cc)
    go None h = length-judged (side_fields p) 0 (main_fields p) p.steps schemas h
