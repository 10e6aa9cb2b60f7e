use Rattle.std.proofs.Common.{◌≡◌, inl, inr, ℕ, suc, ◌+◌, ◌-◌, List, [], map, take, drop, length, Some, Ok, Err, ap, arith, refl, sym, ◌∙◌}
use Rattle.std.specs.Prelude.{slice_get, slice_index_or, zip}
use Rattle.std.proofs.lemmas.List.{get_or_read, length-map, take_rest}
use Rattle.std.proofs.lemmas.Option.{slice_get_read}
use Rattle.fq_column.specs.Frame.{Fields}
use Rattle.fq_language.specs.Judged.{judged}
use Rattle.fq_language.specs.Plan.{PlanData, side_fields}
use Rattle.fq_plan.specs.Followed.{followed_by, notations_before, step_followed, unnoted_at}
use Rattle.fq_plan.specs.PlannedSteps.{planned_step}
use Rattle.fq_plan.specs.declared.noted.planned_steps.PlannedStep.{PlannedStep}
use Rattle.fq_plan.proofs.FollowedLemmas.{before-followed, before-refused, followed-there, refused-before, schemas-counted}
use Rattle.fq_plan.proofs.checks.Checked.notations_before.Goals as goal
use Rattle.fq_plan.proofs.checks.Checked.notations_before.Goals.{After-followed}

-- a column before each step, and after the last
counted : (p : PlanData) (steps : List PlannedStep) (schemas : List Fields) → map planned_step steps ≡ p.steps → judged p ≡ Ok schemas → length schemas ≡ length steps + 1
counted p steps schemas same judges = omega (arith, schemas-counted p schemas judges, ap length same, length-map steps planned_step)

-- the notations after the step, by the parts of the plan that are left
there : (c : After-followed) → followed_by c.args.declared.now c.args.self.now c.loop-before.before c.loop-before.named
    ≡ step_followed c.args.self.now.sources c.args.declared.now
    (zip (map planned_step (take (length c.args.steps.now - (c.loop-before.before + 1)) (drop (c.loop-before.before + 1) c.args.steps.now)))
    (take (length c.args.schemas.now - (c.loop-before.before + 2)) (drop (c.loop-before.before + 2) c.args.schemas.now)))
    (side_fields c.args.self.now) c.index-schemas-before.result c.loop-before.named (planned_step c.index-steps-before.result)
there c =
    let p : PlanData = c.args.self.now in
    let steps : List PlannedStep = c.args.steps.now in
    let schemas : List Fields = c.args.schemas.now in
    let n : ℕ = c.loop-before.before in
    let s : PlannedStep = c.index-steps-before.result in
    let fields : Fields = c.index-schemas-before.result in
    let many : length schemas ≡ length steps + 1 = counted p steps schemas c.requires.steps c.requires.schemas in
    let at : slice_get steps n ≡ Some s = slice_get_read steps (length steps) n s refl (omega (arith, many, c.requires.number, ap length c.requires.steps, length-map steps planned_step)) c.index-steps-before.is in
    let columns : slice_index_or schemas n [] ≡ fields = sym (get_or_read schemas n fields (omega (arith, many, ap length c.requires.steps, length-map steps planned_step)) c.index-schemas-before.is []) in
    followed-there c.args.declared.now p planned_step steps schemas n s fields c.loop-before.named c.requires.steps c.requires.schemas at columns
    ∙ (λ i. step_followed p.sources c.args.declared.now (zip (map planned_step (sym (take_rest steps (n + 1)) i)) (sym (take_rest schemas (n + 2)) i)) (side_fields p) fields c.loop-before.named (planned_step s))

pub offset_bounds-schemas-before : goal.offset_bounds-schemas-before
offset_bounds-schemas-before c =
    omega (arith, counted c.args.self.now c.args.steps.now c.args.schemas.now c.requires.steps c.requires.schemas, ap length c.requires.steps, length-map c.args.steps.now planned_step)

pub slice_bounds-names-count-in-loop-before : goal.slice_bounds-names-count-in-loop-before
slice_bounds-names-count-in-loop-before c =
    omega (arith, counted c.args.self.now c.args.steps.now c.args.schemas.now c.requires.steps c.requires.schemas, ap length c.requires.steps, length-map c.args.steps.now planned_step)

pub slice_bounds-names-start-in-loop-before : goal.slice_bounds-names-start-in-loop-before
slice_bounds-names-start-in-loop-before c =
    omega (arith, counted c.args.self.now c.args.steps.now c.args.schemas.now c.requires.steps c.requires.schemas, ap length c.requires.steps, length-map c.args.steps.now planned_step)

pub offset_bounds-schemas-before-in-loop-before : goal.offset_bounds-schemas-before-in-loop-before
offset_bounds-schemas-before-in-loop-before c =
    omega (arith, counted c.args.self.now c.args.steps.now c.args.schemas.now c.requires.steps c.requires.schemas, ap length c.requires.steps, length-map c.args.steps.now planned_step)

pub bounds-schemas-before : goal.bounds-schemas-before
bounds-schemas-before c =
    omega (arith, counted c.args.self.now c.args.steps.now c.args.schemas.now c.requires.steps c.requires.schemas, ap length c.requires.steps, length-map c.args.steps.now planned_step)

pub returns-in-Err-clause-refused : goal.returns-in-Err-clause-refused
returns-in-Err-clause-refused c =
    let p = c.args.self.now in
    let declared = c.args.declared.now in
    let n = c.loop-before.before in
    let named = c.loop-before.named in
    let why = c.in-Err.why in
    let at = there ((goal.at.returns-in-Err-clause-refused c).After-followed) in
    elim c.in-Err.ensures.refused [
      | inl e ↦ inl (refused-before declared p (suc n) c.args.number (unnoted_at n why) (before-refused declared p n named why c.loop-before.invariant (at ∙ e)) (omega arith) ∙ ap Err (sym c.unnoted_at.ensures))
      | inr memory ↦ inr (c.unnoted_at.ensures ∙ ap (unnoted_at n) memory)
    ]

pub loop-before-preserved : goal.loop-before-preserved
loop-before-preserved c =
    let p = c.args.self.now in
    let declared = c.args.declared.now in
    let n = c.loop-before.before in
    let at = there ((goal.at.loop-before-preserved c).After-followed) in
    ap (notations_before declared p) (let next : n + 1 ≡ suc n = omega arith in next)
    ∙ before-followed declared p n c.loop-before.named c.in-Ok.after c.loop-before.invariant (at ∙ c.in-Ok.ensures.followed)
