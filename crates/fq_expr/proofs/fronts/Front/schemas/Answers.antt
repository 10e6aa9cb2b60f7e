use Rattle.std.proofs.Common.{◌≡◌, ◌+◌, ◌++◌, ◌∷◌, [], ◌∙◌, List, ap, sym, subst, arith, map, drop, append_assoc}
use Rattle.std.specs.Prelude.{IsOk}
use Rattle.fq_column.specs.Frame.{Fields}
use Rattle.fq_expr.specs.Expression.{Step}
use Rattle.fq_expr.specs.Kinds.{steps_schema}
use Rattle.fq_expr.specs.ExpressionData.{step_of}
use Rattle.fq_expr.specs.Steps.{fields_after, fields_after_each}
use Rattle.fq_expr.proofs.FrontLemmas.{first-step, later-steps, drop-map}
use Rattle.fq_expr.proofs.fronts.Front.schemas.Goals.{After-index}
use Rattle.fq_expr.proofs.fronts.Front.schemas.Goals as goal

-- the steps that are left: this one, then the others
left : (c : After-index) → drop c.loop-i.i (map step_of c.self.inside.steps.items) ≡ step_of c.index.result.now ∷ drop (c.loop-i.i + 1) (map step_of c.self.inside.steps.items)
left c = drop-map step_of c.self.inside.steps.items c.loop-i.i c.index.result.now (omega (arith, c.loop-i-test.true, c.len-i-end.ensures, c.self.inside.steps.ok.0)) c.index.ensures

passed : (c : After-index) → IsOk (steps_schema c.loop-i.last (step_of c.index.result.now ∷ drop (c.loop-i.i + 1) (map step_of c.self.inside.steps.items)))
passed c = subst (λ (l : List Step). IsOk (steps_schema c.loop-i.last l)) (left c) c.loop-i.invariant.passed

pub schema_after-requires : goal.schema_after-requires
schema_after-requires c =
    first-step c.loop-i.last (step_of c.index.result.now) (drop (c.loop-i.i + 1) (map step_of c.self.inside.steps.items)) (passed (goal.at.schema_after-requires c).After-index)

pub loop-i-preserved : goal.loop-i-preserved
loop-i-preserved c =
    let d = (goal.at.loop-i-preserved c).After-index in
    let s = step_of c.index.result.now in
    let rest = drop (c.loop-i.i + 1) (map step_of c.self.inside.steps.items) in
    let after : c.in_ok-last-2.last ≡ fields_after c.loop-i.last s = c.in_ok-last-2.ensures in
    record {
      passed = subst (λ (g : Fields). IsOk (steps_schema g rest)) (sym after) (later-steps c.loop-i.last s rest (passed d));
      all = (λ i. c.in_ok-push.ensures.items i ++ fields_after_each c.in_ok-last-2.last rest)
          ∙ append_assoc c.loop-i.schemas.items (c.in_ok-copy.field-0 ∷ []) (fields_after_each c.in_ok-last-2.last rest)
          ∙ ap (λ (g : Fields). c.loop-i.schemas.items ++ (g ∷ fields_after_each c.in_ok-last-2.last rest)) c.in_ok-copy.ensures
          ∙ ap (λ (g : Fields). c.loop-i.schemas.items ++ (g ∷ fields_after_each g rest)) after
          ∙ ap (λ l. c.loop-i.schemas.items ++ fields_after_each c.loop-i.last l) (sym (left d))
          ∙ c.loop-i.invariant.all;
    }
