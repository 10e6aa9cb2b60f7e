use Rattle.std.proofs.Common.{◌≡◌, ◌++◌, ◌∷◌, [], Ok, ap, sym, ◌∙◌}
use Rattle.fq_column.specs.Frame.{Fields}
use Rattle.fq_expr.specs.Steps.{fields_after_each}
use Rattle.fq_language.specs.Judged.{judged}
use Rattle.fq_language.specs.Plan.{main_fields}
use Rattle.fq_plan.specs.Stages.{plan_of, stage_schemas}
use Rattle.fq_run.specs.Physical.{Physical}
use Rattle.fq_plan.proofs.FollowedLemmas.{schemas-judged}
use Rattle.fq_plan.proofs.checks.Checked.schemas.Goals as goal

pub loop-stage-init : goal.loop-stage-init
loop-stage-init c =
    let p : Physical = c.self.inside.physical in
    let main : Fields = main_fields (plan_of p) in
    let leading = c.leading-leading.ensures in
    let first : c.in_ok-copy.field-0 ≡ main = c.in_ok-copy.ensures ∙ c.schema.ensures ∙ leading.columns in
    let pushed : c.push.new.self.items ≡ main ∷ [] = c.in_ok-push.ensures.items ∙ (λ i. c.new-schemas.ensures.items i ++ first i ∷ []) in
    let rows : c.in_ok-after_leading.after_leading.items ≡ fields_after_each main p.front =
    c.in_ok-after_leading.ensures ∙ (λ i. fields_after_each (leading.columns i) (leading.steps i)) in
    let items : c.append.new.self.items ≡ main ∷ fields_after_each main p.front = c.in_ok-append.ensures.items ∙ (λ i. pushed i ++ rows i) in
    sym (ap judged c.self.view_is)
    ∙ schemas-judged p c.self.invariant
    ∙ (λ i. Ok (sym items i ++ stage_schemas (sym c.stages-stages.ensures i)))
