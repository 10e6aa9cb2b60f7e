use Rattle.std.proofs.Common.{◌≡◌, ◌⊎◌, List, map, Err, ap, subst, sym, ◌∙◌}
use Rattle.std.specs.Prelude.{IfErr}
use Rattle.fq_expr.specs.Expression.{Item}
use Rattle.fq_expr.specs.ExpressionData.{step_of}
use Rattle.fq_expr.specs.Naming.{step_noted}
use Rattle.fq_notation.specs.declared.naming.Said.{Said}
use Rattle.fq_notation.specs.declared.naming.StepUnnoted.TheVariants as unnoted
use Rattle.fq_plan.specs.PlannedSteps.{followed_in, planned_step, said_in}
use Rattle.fq_plan.specs.declared.noted.planned_steps.PlannedStep.{PlannedStep}
use Rattle.fq_plan.proofs.noted.following.Names.followed.Goals as goal

pub returns-in_ok-said-in-Row-clause-refused : goal.returns-in_ok-said-in-Row-clause-refused
returns-in_ok-said-in-Row-clause-refused c =
    let told : List Item → List Said = λ items. map (λ (i : Item). said_in c.args.self.now i.0) items in
    let by : List Said → Type 0 = λ said.
    IfErr c.noted.result (λ why. (step_noted c.args.columns.now c.args.named said (step_of c.in-Row.step.now) ≡ Err why) ⊎ (why ≡ unnoted.Memory)) in
    subst (λ (s : PlannedStep). IfErr c.noted.result (λ why. (followed_in c.args.self.now c.args.columns.now c.args.named (planned_step s) ≡ Err why) ⊎ (why ≡ unnoted.Memory))) (sym c.in-Row.is)
    (subst by (c.as_slice.ensures.value ∙ c.in_ok-said-in-Row.ensures ∙ ap told c.items_in.ensures) c.noted.ensures.refused)
