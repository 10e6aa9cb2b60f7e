use Rattle.std.proofs.Common.{◌≡◌, ◌∙◌, ◌++◌, ◌∷◌, [], Ok, ap, refl, subst, sym}
use Rattle.std.specs.Prelude.{IsOk}
use Rattle.fq_expr.specs.ExpressionData.{step_of}
use Rattle.fq_expr.specs.Front.{NumberedSteps}
use Rattle.fq_expr.specs.Kinds.{step_schema, steps_schema}
use Rattle.fq_plan.proofs.CheckLemmas.{judged-ok, schema-further}
use Rattle.fq_plan.proofs.checks.steps.extend.Goals as goal
use Rattle.fq_plan.proofs.checks.steps.extend.Goals.{In_ok-after}

-- the columns after one more step
further : (c : In_ok-after) → steps_schema c.args.front.now.fields (c.args.front.now.steps ++ step_of c.args.step ∷ []) ≡ Ok c.in_ok-after.field-0
further c =
    let step = step_of c.args.step in
    schema-further c.args.front.now.fields c.args.front.now.steps step c.args.after.now c.in_ok-after.field-0 c.requires.leads
    (judged-ok (step_schema c.args.after.now step) c.in_ok-after.field-0 c.in_ok-after.ensures.judged)

pub push-requires-clause-schemas : goal.push-requires-clause-schemas
push-requires-clause-schemas c = subst IsOk (sym (further (goal.at.push-requires-clause-schemas c).In_ok-after)) refl

pub returns-clause-leads : goal.returns-clause-leads
returns-clause-leads c =
    ap (λ (front : NumberedSteps). steps_schema front.fields front.steps) c.in_ok-push.ensures.ok ∙ further (goal.at.returns-clause-leads c).In_ok-after
