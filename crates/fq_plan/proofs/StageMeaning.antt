-- What stages make of streams is what the plan's steps mean.
use Rattle.std.proofs.Common.{◌≡◌, ℕ, suc, ◌+◌, List, [], ◌∷◌, ◌++◌, map, length, Option, Some, None, Result, Ok, Err, pos, refl, ap, sym, ◌∙◌, subst, get_or, string_bytes, arith, append-nil, Bool}
use Rattle.std.specs.Prelude.{is_ok, option_map, slice_get, slice_index_or}
use Rattle.std.specs.Result.{result_unwrap_or}
use Rattle.std.proofs.lemmas.Option.{get_or_from_slice_get, slice_get-map}
use Rattle.fq_column.specs.declared.faults.StepFault.{StepFault}
use Rattle.fq_column.specs.declared.faults.StepFault.TheVariants.{NoSuchSource}
use Rattle.fq_column.specs.Frame.{Fields, Frame, Name}
use Rattle.fq_column.specs.Stream.{Stream}
use Rattle.fq_expr.specs.Front.{NumberedSteps}
use Rattle.fq_expr.specs.Steps.{apply_steps, fields_after_all}
use Rattle.fq_ops.specs.AggregateData.{outputs_of}
use Rattle.fq_ops.specs.Group.{group_stream}
use Rattle.fq_ops.specs.Join.{join_schema, join_stream, joined_fields}
use Rattle.fq_ops.specs.Roll.{roll_stream}
use Rattle.fq_ops.specs.declared.joins.How.{How}
use Rattle.fq_ops.proofs.RefusalLemmas.{join-output}
use Rattle.fq_language.specs.Judged.{judged_step}
use Rattle.fq_plan.specs.Meaning.{apply_plan_step, apply_plan_steps, fields_after, meaning, meaning_of_sources}
use Rattle.fq_language.specs.Plan.{PlanStep, row_wise, join, group_by, rolling_sum}
use Rattle.fq_plan.specs.Stages.{Leads, LowersTo, IsChecked, operator_steps, plan_of, query_of, stage_steps}
use Rattle.fq_plan.proofs.LeadingStepLemmas.{leading-steps}
use Rattle.fq_plan.proofs.WholeSourceLemmas.{meaning-whole}
use Rattle.fq_run.specs.declared.operators.joining.TheConstants.{MAX_JOINED_ROWS}
use Rattle.fq_run.specs.Outcome.{columns_after, frame_or_fault}
use Rattle.fq_run.specs.Physical.{Physical, after_leading, front_fields, side_files, main_fields, outcome_of_run, outcome_of_sources}
use Rattle.fq_csv.specs.Sources.{Source, but_last}
use Rattle.fq_run.specs.Sources.{concat_streams, first_fault, frames_of, scan_fault, source_streams}
use Rattle.fq_run.specs.Stages.{Accepts, Fit, schema_with}
use Rattle.fq_run.specs.Starting.{nothing, transform_of, transforms_of}
use Rattle.fq_run.specs.Transforms.{whole, whole_all}
use Rattle.fq_run.specs.declared.faults.Fault.{Fault}
use Rattle.fq_run.specs.declared.faults.Fault.TheVariants.{Overflow, JoinRows, RollRange, SumRange}
use Rattle.fq_run.specs.declared.operators.Operator.{Operator}
use Rattle.fq_run.specs.declared.operators.Operator.TheVariants.{Rows, Join, GroupBy, RollingSum}
use Rattle.fq_run.specs.declared.stages.Stage.{Stage}
use Rattle.fq_run.proofs.StageLemmas.{fields-after-all}
use Rattle.fq_run.proofs.StageTransforms.{transform-is}
use Rattle.fq_run.proofs.TransformLemmas.{group-whole, join-whole, roll-whole, steps-whole}
use Rattle.fq_column.specs.Stream.{rename_fault}
use Rattle.fq_csv.specs.declared.faults.ScanFault.{ScanFault}
use Rattle.std.specs.Prelude.{drop}

-- ---- stages that do the steps of a plan fit together

pub accepts : (sides : List Fields) (n : ℕ) (fields : Fields) (o : Operator) (after : Fields) → LowersTo sides n fields o after → Accepts sides fields o after
accepts sides n fields (Rows front) after t = (t.0, t.2)
accepts sides n fields (Join j) after t = t
accepts sides n fields (GroupBy g) after t = t
accepts sides n fields (RollingSum r) after t = t

pub fits : (sides : List Fields) (n : ℕ) (fields : Fields) (stages : List Stage) (after : Fields) → Leads sides n fields stages after → Fit sides fields stages after
fits sides n fields [] after leads = leads
fits sides n fields (s ∷ stages) after (same, turns, leads) =
    (accepts sides n fields s.operator s.after turns, fits sides (n + length (operator_steps s.operator)) s.after stages after leads)

-- ---- operators as the plan's steps

module _ (sides : List Frame) (n : ℕ) (fields after : Fields) (u : Stream Fault) (s : Fields × Stream Fault) where
  abbrev pub Is : List PlanStep → Type 0
  Is steps = (s.0 ≡ after) × (s ≡ apply_plan_steps sides n fields steps u)

  pub rows-turn : (front : NumberedSteps) → LowersTo (map (λ f. f.fields) sides) n fields (Rows front) after →
      s ≡ (fields_after_all fields front.steps, apply_steps Overflow front.first fields front.steps u) → Is (operator_steps (Rows front))
  rows-turn front t e = (
    ap (λ (p : Fields × Stream Fault). p.0) e ∙ fields-after-all fields after front.steps t.2,
    e ∙ ap (λ m. (fields_after_all fields front.steps, apply_steps Overflow m fields front.steps u)) t.1
        ∙ sym (leading-steps sides n fields front.steps [] u)
        ∙ ap (λ steps. apply_plan_steps sides n fields steps u) (append-nil (map row_wise front.steps)),
  )

  -- a step whose columns are known
  pub step-turn : (step : PlanStep) (given : Fields) (v : Stream Fault) → judged_step (map (λ f. f.fields) sides) fields step ≡ Ok after → given ≡ after →
      apply_plan_step sides n fields step u ≡ v → s ≡ (given, v) → Is (step ∷ [])
  step-turn step given v t e f h = (
    ap (λ (p : Fields × Stream Fault). p.0) h ∙ e,
    h ∙ (λ i. ((e ∙ sym (ap (λ (r : Result Fields StepFault). result_unwrap_or r fields) t)) i, sym f i)),
  )

  -- the source of a join that is not refused
  pub source-there : (how : How) (source : ℕ) (on : List Name) → schema_with how fields on (slice_get (map (λ (f : Frame). f.fields) sides) source) ≡ Ok after → (right : Frame) × (slice_get sides source ≡ Some right)
  source-there how source on t = go (slice_get sides source) refl (ap (schema_with how fields on) (sym (slice_get-map (λ (f : Frame). f.fields) sides source)) ∙ t)
    where
      go : (o : Option Frame) → slice_get sides source ≡ o → schema_with how fields on (option_map (λ (f : Frame). f.fields) o) ≡ Ok after → (right : Frame) × (slice_get sides source ≡ Some right)
      go None e h = absurd (let g : Err NoSuchSource ≡ Ok after = h in cc)
      go (Some r) e h = (r, e)

  pub join-turn : (source : ℕ) (on : List Name) (how : How) (nulls_equal : Bool) (right : Frame) → right ≡ get_or sides source right → judged_step (map (λ f. f.fields) sides) fields (join (pos source) on how nulls_equal) ≡ Ok after →
      s ≡ (joined_fields how fields right.fields on, join_stream how nulls_equal fields right.fields on right.rows MAX_JOINED_ROWS (JoinRows n) u) → Is (join (pos source) on how nulls_equal ∷ [])
  join-turn source on how nulls_equal right is t h =
      let there = source-there how source on t in
      let at : slice_get sides source ≡ Some right = there.1 ∙ ap Some (sym (get_or_from_slice_get sides source there.0 right there.1) ∙ sym is) in
      let known : join_schema how fields right.fields on ≡ Ok after = ap (schema_with how fields on) (sym (slice_get-map (λ (f : Frame). f.fields) sides source ∙ ap (option_map (λ (f : Frame). f.fields)) at)) ∙ t in
      let same : (let output : Result Fields StepFault = Ok (joined_fields how fields right.fields on) in output) ≡ Ok after = sym (join-output how fields right.fields on (ap is_ok known)) ∙ known in
      step-turn (join (pos source) on how nulls_equal) (joined_fields how fields right.fields on) (join_stream how nulls_equal fields right.fields on right.rows MAX_JOINED_ROWS (JoinRows n) u) t
      (cc)
      (ap (λ (o : Option Frame). elim o [ None ↦ u | Some right ↦ join_stream how nulls_equal fields right.fields on right.rows MAX_JOINED_ROWS (JoinRows n) u ]) at)
      h

-- ---- stages, one after the other

plan-steps-append : (sides : List Frame) (n : ℕ) (fields : Fields) (xs ys : List PlanStep) (u : Stream Fault) →
    apply_plan_steps sides n fields (xs ++ ys) u ≡ (let r = apply_plan_steps sides n fields xs u in apply_plan_steps sides (n + length xs) r.0 ys r.1)
plan-steps-append sides n fields [] ys u = ap (λ m. apply_plan_steps sides m fields ys u) (let e : n ≡ n + 0 = omega arith in e)
plan-steps-append sides n fields (x ∷ xs) ys u =
    let r = apply_plan_steps sides (n + 1) (fields_after sides fields x) xs (apply_plan_step sides n fields x u) in
    plan-steps-append sides (n + 1) (fields_after sides fields x) xs ys (apply_plan_step sides n fields x u)
    ∙ ap (λ m. apply_plan_steps sides m r.0 ys r.1) (let e : n + 1 + length xs ≡ n + suc (length xs) = omega arith in e)

module _ (sides : List Frame) (fields : Fields) (stage : Stage) (rest : List Stage) (u : Stream Fault) (mid s : Fields × Stream Fault) where
  abbrev columns : List Fields
  columns = map (λ (f : Frame). f.fields) sides

  pub stages-lead : (n : ℕ) (after : Fields) → Leads columns n fields (stage ∷ rest) after →
      ((after : Fields) → LowersTo columns stage.number fields stage.operator after → (mid.0 ≡ after) × (mid ≡ apply_plan_steps sides stage.number fields (operator_steps stage.operator) u)) →
      ((m : ℕ) (after : Fields) → Leads columns m mid.0 rest after → s ≡ apply_plan_steps sides m mid.0 (stage_steps rest) mid.1) →
      s ≡ apply_plan_steps sides n fields (stage_steps (stage ∷ rest)) u
  stages-lead n after (same, turns, leads) one more =
      let steps = operator_steps stage.operator in
      let r = one stage.after (subst (λ m. LowersTo columns m fields stage.operator stage.after) (sym same) turns) in
      let at_n : mid ≡ apply_plan_steps sides n fields steps u = r.1 ∙ ap (λ m. apply_plan_steps sides m fields steps u) same in
      more (n + length steps) after (subst (λ g. Leads columns (n + length steps) g rest after) (sym r.0) leads)
      ∙ ap (λ (p : Fields × Stream Fault). apply_plan_steps sides (n + length steps) p.0 (stage_steps rest) p.1) at_n
      ∙ sym (plan-steps-append sides n fields steps (stage_steps rest) u)

module _ (sides : List Frame) where
  abbrev all_columns : List Fields
  all_columns = map (λ (f : Frame). f.fields) sides

  -- the columns after an operator, and what it makes of a stream, are those of its steps
  pub does : (n : ℕ) (fields after : Fields) (o : Operator) (u : Stream Fault) → LowersTo all_columns n fields o after →
      (let r : Fields × Stream Fault = ((transform_of sides n fields o).gives, whole (transform_of sides n fields o) u) in r) ≡ apply_plan_steps sides n fields (operator_steps o) u
  does n fields after (Rows front) u t =
      (rows-turn sides n fields after u (fields_after_all front.fields front.steps, whole (transform_of sides n fields (Rows front)) u) front t
      (λ i. (fields_after_all (t.0 i) front.steps, (steps-whole front u ∙ ap (λ (f : Fields). apply_steps Overflow front.first f front.steps u) t.0) i))).1
  does n fields after (Join j) u t =
      let names = map string_bytes j.on.items in
      let right = slice_index_or sides j.source nothing in
      let there = source-there sides n fields after u (fields, u) j.how j.source names t in
      let is : right ≡ get_or sides j.source right = get_or_from_slice_get sides j.source there.0 nothing there.1 ∙ sym (get_or_from_slice_get sides j.source there.0 right there.1) in
      let m = transform_of sides n fields (Join j) in
      (join-turn sides n fields after u (m.gives, whole m u) j.source names j.how j.nulls_equal right is t
      (λ i. (m.gives, join-whole n j.how (record { fields = right.fields; rows = right.rows; on = names; nulls_equal = j.nulls_equal }) fields u i))).1
  does n fields after (GroupBy g) u t =
      let names = map string_bytes g.keys.items in let outputs = outputs_of g.aggs.items in
      let m = transform_of sides n fields (GroupBy g) in
      (step-turn sides n fields after u (m.gives, whole m u) (group_by names outputs) m.gives (group_stream fields names outputs (SumRange n) u) t
      (transform-is sides n fields after (GroupBy g) t).gives refl (λ i. (m.gives, group-whole n fields names outputs u i))).1
  does n fields after (RollingSum r) u t =
      let c = string_bytes r.column in let to = string_bytes r.name in
      let m = transform_of sides n fields (RollingSum r) in
      (step-turn sides n fields after u (m.gives, whole m u) (rolling_sum c (pos r.window) (pos r.min_samples) to) m.gives (roll_stream fields c r.window r.min_samples to (RollRange n) u) t
      (transform-is sides n fields after (RollingSum r) t).gives refl (λ i. (m.gives, roll-whole n fields c r.window r.min_samples to u i))).1

  pub does-all : (stages : List Stage) (fields : Fields) (u : Stream Fault) (n : ℕ) (after : Fields) → Leads all_columns n fields stages after →
      (let r : Fields × Stream Fault = (columns_after fields (transforms_of sides fields stages), whole_all (transforms_of sides fields stages) u) in r) ≡ apply_plan_steps sides n fields (stage_steps stages) u
  does-all [] fields u n after leads = refl
  does-all (s ∷ stages) fields u n after leads =
      let m = transform_of sides s.number fields s.operator in
      stages-lead sides fields s stages u (m.gives, whole m u) (columns_after m.gives (transforms_of sides m.gives stages), whole_all (transforms_of sides m.gives stages) (whole m u)) n after leads
      (λ f turns. ((transform-is sides s.number fields f s.operator (accepts all_columns s.number fields s.operator f turns)).gives, does s.number fields f s.operator u turns))
      (λ k end more. does-all stages m.gives (whole m u) k end more)

-- ---- a physical plan, and the plan that it does

pub length-sources : {F : Type 0} (sources : List Source) (us : List (Stream F)) → length (source_streams sources us) ≡ length sources
length-sources [] us = refl
length-sources (s ∷ sources) us = ap suc (length-sources sources (drop s.files us))

pub columns-of-frames : {F : Type 0} (sources : List Source) (us : List (Stream F)) → length us ≡ length sources → map (λ (f : Frame). f.fields) (frames_of sources us) ≡ map (λ (s : Source). s.fields) sources
columns-of-frames [] us e = refl
columns-of-frames (s ∷ sources) [] e = absurd (omega (arith, e))
columns-of-frames (s ∷ sources) (u ∷ us) e = ap (λ fs. s.fields ∷ fs) (columns-of-frames sources us (omega (arith, e)))

module _ (p : Physical) (c : IsChecked p) where
  sources-mean : (sides : List (Stream Fault)) (main : Stream Fault) → length sides ≡ length (but_last p.sources) → outcome_of_sources p sides main ≡ meaning_of_sources (plan_of p) sides main
  sources-mean sides main count =
      let frames : List Frame = frames_of (but_last p.sources) sides in
      let steps : List PlanStep = stage_steps p.stages in
      let leads : Leads (map (λ (f : Frame). f.fields) frames) (length p.front) (front_fields p) p.stages c.leads.1 =
      subst (λ (fs : List Fields). Leads fs (length p.front) (front_fields p) p.stages c.leads.1) (sym (columns-of-frames (but_last p.sources) sides count))
      (subst (λ (f : Fields). Leads (map (λ (s : Source). s.fields) (but_last p.sources)) (length p.front) f p.stages c.leads.1) (sym (fields-after-all (main_fields p) c.leads.0 p.front c.leads.2)) c.leads.3) in
      ap (λ (r : Fields × Stream Fault). elim (first_fault sides) as (λ _. Result Frame Fault) [ Some f ↦ Err f | None ↦ frame_or_fault r.0 r.1 ])
      (does-all frames p.stages (front_fields p) (after_leading p main) (length p.front) c.leads.1 leads
      ∙ ap (λ n. apply_plan_steps frames n (front_fields p) steps (after_leading p main)) (let e : length p.front ≡ 0 + length p.front = omega arith in e)
      ∙ sym (leading-steps frames 0 (main_fields p) p.front steps main))

  -- what a run comes to is what the plan means
  pub means : (us : List (Stream ScanFault)) → outcome_of_run p us ≡ meaning (query_of p) us
  means us =
      let renamed : List (Stream Fault) = map (rename_fault scan_fault) us in
      sources-mean (source_streams (but_last p.sources) renamed) (concat_streams (drop (side_files p) renamed)) (length-sources (but_last p.sources) renamed)
      ∙ sym (meaning-whole (plan_of p) us)
