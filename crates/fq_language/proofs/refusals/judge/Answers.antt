use Rattle.std.proofs.Common.{◌≡◌, ◌∙◌, ◌++◌, ◌∷◌, [], List, ap, map, subst, sym}
use Rattle.std.specs.Prelude.{IsErr, IsOk}
use Rattle.fq_csv.specs.Sources.{Source}
use Rattle.fq_column.specs.Frame.{Fields}
use Rattle.fq_language.specs.Judged.{source_refusal}
use Rattle.fq_language.specs.Plan.{PlanData}
use Rattle.fq_language.specs.View.{plan_step_of, source_data}
use Rattle.fq_language.proofs.RefusalLemmas.{err-for, judge-done, ok-for}
use Rattle.fq_language.proofs.refusals.judge.Goals as goal

pub returns-clause-passed : goal.returns-clause-passed
returns-clause-passed c =
    let p = c.args.plan.now in
    let sources : p.sources ≡ map source_data c.as_slice.result.now = ap (λ (p : PlanData). p.sources) (sym c.plan.view_is) ∙ ap (map source_data) (sym c.as_slice.ensures.value) in
    let steps : map plan_step_of c.as_slice-3.result.now ≡ p.steps = ap (map plan_step_of) c.as_slice-3.ensures.value ∙ ap (λ (p : PlanData). p.steps) c.plan.view_is in
    let same = judge-done p c.as_slice-2.result.now c.in-Some.main (map plan_step_of c.as_slice-3.result.now)
    (ap (map (λ (s : Source). s.fields)) sources ∙ sym c.in_ok-sides.ensures.schemas ∙ c.in-Some.ensures.items ∙ ap (λ (sides : List Fields). sides ++ c.in-Some.main ∷ []) (sym c.as_slice-2.ensures.value))
    (ap (source_refusal 0) sources ∙ c.in_ok-sides.ensures.passed) steps in
    ok-for (λ done. subst IsOk (sym same) (done 0)) c.judge_steps.result c.judge_steps.ensures.passed

pub returns-clause-wrong : goal.returns-clause-wrong
returns-clause-wrong c =
    let p = c.args.plan.now in
    let sources : p.sources ≡ map source_data c.as_slice.result.now = ap (λ (p : PlanData). p.sources) (sym c.plan.view_is) ∙ ap (map source_data) (sym c.as_slice.ensures.value) in
    let steps : map plan_step_of c.as_slice-3.result.now ≡ p.steps = ap (map plan_step_of) c.as_slice-3.ensures.value ∙ ap (λ (p : PlanData). p.steps) c.plan.view_is in
    let same = judge-done p c.as_slice-2.result.now c.in-Some.main (map plan_step_of c.as_slice-3.result.now)
    (ap (map (λ (s : Source). s.fields)) sources ∙ sym c.in_ok-sides.ensures.schemas ∙ c.in-Some.ensures.items ∙ ap (λ (sides : List Fields). sides ++ c.in-Some.main ∷ []) (sym c.as_slice-2.ensures.value))
    (ap (source_refusal 0) sources ∙ c.in_ok-sides.ensures.passed) steps in
    err-for (λ refused. subst IsErr (sym same) (refused 0)) c.judge_steps.result c.judge_steps.ensures.wrong
