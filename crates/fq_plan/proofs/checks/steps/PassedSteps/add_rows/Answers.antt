use Rattle.std.proofs.Common.{◌≡◌, ◌-◌, ◌++◌, ◌∷◌, [], ◌∙◌, List, map, length, ap, refl, subst, sym, arith}
use Rattle.std.specs.Prelude.{slice_set, vec_len}
use Rattle.std.proofs.lemmas.Result.{on_ok_weaker}
use Rattle.csv.proofs.WriteFacts.{on_ok_both}
use Rattle.fq_column.specs.Frame.{Fields}
use Rattle.fq_csv.specs.Sources.{last_or}
use Rattle.fq_expr.specs.ExpressionData.{step_of}
use Rattle.fq_language.specs.Plan.{row_wise}
use Rattle.fq_plan.specs.Stages.{columns_after, leading_stage, stage_steps, Leads, LowersTo}
use Rattle.fq_run.specs.declared.operators.Operator.TheVariants.{Rows}
use Rattle.fq_run.specs.declared.stages.Stage.{Stage}
use Rattle.fq_plan.proofs.CheckLemmas.{columns-last, ends-in, same-last, rows-further, rows-number, rows-schema, rows-steps}
use Rattle.fq_plan.proofs.checks.steps.PassedSteps.add_rows.Goals as goal
use Rattle.fq_plan.proofs.checks.steps.PassedSteps.add_rows.Goals.{In-Rows, In_ok-rows, After-extend-in-Rows}

-- the leading steps as a stage
abbrev leading : In-Rows → Stage
leading c = leading_stage c.args.self.now.leading c.args.self.now.after_leading

-- the stages before the last, with another in its place
ends : (c : In-Rows) (t : Stage) → (before : List Stage) × (c.args.self.now.stages.items ≡ before ++ c.in-Some.stage.now ∷ []) × (slice_set c.args.self.now.stages.items (vec_len c.args.self.now.stages - 1) t ≡ before ++ t ∷ [])
ends c t =
    let stages = c.args.self.now.stages in
    ends-in stages.items c.in-Some.stage.now t (vec_len stages - 1) (omega (arith, c.in-Some.ensures.variant.0 refl, stages.ok.0)) c.in-Some.ensures.value

leads-to : (c : In-Rows) (t : Stage) (sides : List Fields) (main : Fields) → Leads sides 0 main (leading c ∷ c.args.self.now.stages.items) (columns_after c.args.self.now) →
    Leads sides 0 main (leading c ∷ ((ends c t).0 ++ c.in-Some.stage.now ∷ [])) (columns_after c.args.self.now)
leads-to c t sides main h = subst (λ (ss : List Stage). Leads sides 0 main (leading c ∷ ss) (columns_after c.args.self.now)) (ends c t).1 h

pub extend-requires-in-Rows-clause-number : goal.extend-requires-in-Rows-clause-number
extend-requires-in-Rows-clause-number c =
    let d = (goal.at.extend-requires-in-Rows-clause-number c).In-Rows in
    let s = c.in-Some.stage.now in
    let e = ends d s in
    let l = c.requires.leads in
    let count = rows-number l.0 0 l.1 (leading d ∷ e.0) s c.in-Rows.front c.in-Rows.is (columns_after c.args.self.now) (leads-to d s l.0 l.1 l.2) in
    omega (arith, count, c.requires.number, c.requires.few, ap (λ (ss : List Stage). length (stage_steps (leading d ∷ ss))) e.1)

pub extend-requires-in-Rows-clause-leads : goal.extend-requires-in-Rows-clause-leads
extend-requires-in-Rows-clause-leads c =
    let d = (goal.at.extend-requires-in-Rows-clause-leads c).In-Rows in
    let s = c.in-Some.stage.now in
    let l = c.requires.leads in
    rows-schema l.0 0 l.1 (leading d ∷ (ends d s).0) s c.in-Rows.front c.in-Rows.is (columns_after c.args.self.now) (leads-to d s l.0 l.1 l.2)

-- the last stage with one more step
abbrev longer : After-extend-in-Rows → Stage
longer c = record { number = c.in-Some.stage.now.number; operator = Rows c.extend-in-Rows.new.front; after = c.extend-in-Rows.new.after }

pub returns-in-Rows-clause-step : goal.returns-in-Rows-clause-step
returns-in-Rows-clause-step c =
    let e = goal.at.returns-in-Rows-clause-step c in
    let d = e.In-Rows in
    let s = c.in-Some.stage.now in
    let t = longer e.After-extend-in-Rows in
    let l = c.requires.leads in
    let step = step_of c.args.step in
    on_ok_weaker c.extend-in-Rows.result (λ is.
    ap (λ (ss : List Stage). stage_steps (leading d ∷ ss)) (ends d t).2
    ∙ rows-steps l.0 0 l.1 (leading d ∷ (ends d t).0) s c.in-Rows.front c.in-Rows.is (columns_after c.args.self.now) (leads-to d t l.0 l.1 l.2) c.extend-in-Rows.new.front step is c.extend-in-Rows.new.after
    ∙ ap (λ (ss : List Stage). stage_steps (leading d ∷ ss) ++ row_wise step ∷ []) (sym (ends d t).1))
    c.extend-in-Rows.ensures.front

pub returns-in-Rows-clause-leads : goal.returns-in-Rows-clause-leads
returns-in-Rows-clause-leads c =
    let e = goal.at.returns-in-Rows-clause-leads c in
    let d = e.In-Rows in
    let s = c.in-Some.stage.now in
    let t = longer e.After-extend-in-Rows in
    let p = c.args.self.now in
    on_ok_both c.extend-in-Rows.result (λ is schema sides main leads.
    subst (λ (ss : List Stage). Leads sides 0 main (leading d ∷ ss) (last_or p.after_leading (map (λ (u : Stage). u.after) ss))) (sym (ends d t).2)
    (subst (λ (fields : Fields). Leads sides 0 main (leading d ∷ ((ends d t).0 ++ t ∷ [])) fields) (sym (columns-last p.after_leading (ends d t).0 t))
    (rows-further sides 0 main (leading d ∷ (ends d t).0) s c.in-Rows.front c.in-Rows.is (columns_after p) (leads-to d t sides main leads) c.extend-in-Rows.new.front (step_of c.args.step) is c.extend-in-Rows.new.after schema)))
    c.extend-in-Rows.ensures.front c.extend-in-Rows.ensures.leads

-- the last stage is not changed
same : (c : In_ok-rows) → slice_set c.args.self.now.stages.items (vec_len c.args.self.now.stages - 1) c.in-Some.stage.now ≡ c.args.self.now.stages.items
same c =
    let stages = c.args.self.now.stages in
    same-last stages.items c.in-Some.stage.now (vec_len stages - 1) (omega (arith, c.in-Some.ensures.variant.0 refl, stages.ok.0)) c.in-Some.ensures.value

pub returns-clause-step : goal.returns-clause-step
returns-clause-step c =
    let p = c.args.self.now in
    let d = (goal.at.returns-clause-step c).In_ok-rows in
    on_ok_weaker c.push.result (λ is. is ∙ (λ i. stage_steps (leading_stage p.leading p.after_leading ∷ same d i) ++ c.in_ok-rows.ensures.step i)) c.push.ensures.step

pub returns-clause-leads : goal.returns-clause-leads
returns-clause-leads c =
    let p = c.args.self.now in
    let d = (goal.at.returns-clause-leads c).In_ok-rows in
    let rows = c.in_ok-rows.rows in
    let first = leading_stage p.leading p.after_leading in
    on_ok_weaker c.push.result (λ further sides main leads.
    further sides main (subst (λ (ss : List Stage). Leads sides 0 main (first ∷ ss) (last_or p.after_leading (map (λ (u : Stage). u.after) ss))) (sym (same d)) leads)
    (c.requires.number ∙ ap (λ (ss : List Stage). length (stage_steps (first ∷ ss))) (sym (same d)))
    (subst (λ (fields : Fields). LowersTo sides c.args.number fields rows.0 rows.1) c.schema.ensures (c.in_ok-rows.ensures.turns sides)))
    c.push.ensures.leads
