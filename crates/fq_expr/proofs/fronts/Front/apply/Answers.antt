use Rattle.std.proofs.Common.{◌≡◌, ◌+◌, ◌∙◌, ◌∷◌, List, ap, sym, subst, arith, map, drop}
use Rattle.std.specs.Prelude.{IsOk}
use Rattle.fq_column.specs.Frame.{Fields}
use Rattle.fq_expr.specs.Expression.{Step}
use Rattle.fq_expr.specs.Front.{fault_at}
use Rattle.fq_expr.specs.Kinds.{steps_schema}
use Rattle.fq_expr.specs.ExpressionData.{step_of}
use Rattle.fq_expr.specs.Steps.{apply_steps, fields_after_all}
use Rattle.fq_expr.proofs.FrontLemmas.{first-step, later-steps, drop-map, replaced, stream-step}
use Rattle.fq_expr.proofs.fronts.Front.apply.Goals.{After-index}
use Rattle.fq_expr.proofs.fronts.Front.apply.Goals as goal

-- the steps that are left: this one, then the others
left : (c : After-index) → drop c.loop-i.i (map step_of c.self.inside.steps.items) ≡ step_of c.index.result.now ∷ drop (c.loop-i.i + 1) (map step_of c.self.inside.steps.items)
left c = drop-map step_of c.self.inside.steps.items c.loop-i.i c.index.result.now (omega (arith, c.loop-i-test.true, c.len-i-end.ensures, c.self.inside.steps.ok.0)) c.index.ensures

schemas : (c : After-index) → IsOk (steps_schema c.loop-i.piece.batch.fields (step_of c.index.result.now ∷ drop (c.loop-i.i + 1) (map step_of c.self.inside.steps.items)))
schemas c = let P : List Step → Type 0 = λ l. IsOk (steps_schema c.loop-i.piece.batch.fields l) in subst P (left c) c.loop-i.invariant.schemas

pub apply-requires : goal.apply-requires
apply-requires c = first-step c.loop-i.piece.batch.fields (step_of c.index.result.now) (drop (c.loop-i.i + 1) (map step_of c.self.inside.steps.items)) (schemas (goal.at.apply-requires c).After-index)

pub loop-i-preserved : goal.loop-i-preserved
loop-i-preserved c = let d = (goal.at.loop-i-preserved c).After-index in
    let rest = drop (c.loop-i.i + 1) (map step_of c.self.inside.steps.items) in
    let s = step_of c.index.result.now in
    let f = c.loop-i.piece.batch.fields in
    let P : Fields → Type 0 = λ g. IsOk (steps_schema g rest) in
    let n = c.self.inside.first + c.loop-i.i in
    let item = c.in_ok-stepped.stepped.fault in
    let fault = c.fault_after.ensures ∙ replaced (fault_at n) item c.loop-i.piece.fault in
    record {
      schemas = subst P (sym c.in_ok-stepped.ensures.fields) (later-steps f s rest (schemas d));
      fields = ap (λ g. fields_after_all g rest) c.in_ok-stepped.ensures.fields ∙ ap (fields_after_all f) (sym (left d)) ∙ c.loop-i.invariant.fields;
      stream = ap (λ k. apply_steps fault_at k c.in_ok-stepped.stepped.batch.fields rest (record { rows = c.in_ok-stepped.stepped.batch.rows; fault = c.fault_after.result })) (let e : c.self.inside.first + (c.loop-i.i + 1) ≡ n + 1 = omega arith in e)
          ∙ stream-step fault_at n f c.in_ok-stepped.stepped.batch.fields s rest c.loop-i.piece.batch.rows c.in_ok-stepped.stepped.batch.rows c.loop-i.piece.fault c.fault_after.result c.in_ok-stepped.stepped.fault
          c.in_ok-stepped.ensures.fields c.in_ok-stepped.ensures.rows c.in_ok-stepped.ensures.fault fault
          ∙ ap (λ l. apply_steps fault_at n f l (record { rows = c.loop-i.piece.batch.rows; fault = c.loop-i.piece.fault })) (sym (left d))
          ∙ c.loop-i.invariant.stream;
    }
