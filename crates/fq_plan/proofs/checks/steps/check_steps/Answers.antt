use Rattle.std.proofs.Common.{◌≡◌, ◌+◌, ◌++◌, ◌∷◌, [], Err, map, length, ap, sym, ◌∙◌, refl, inl, inr, arith, rules, append_assoc, length-append}
use Rattle.std.proofs.lemmas.List.{length-map, map-append}
use Rattle.fq_language.specs.Judged.{judged_steps, refused_at}
use Rattle.fq_language.specs.View.{plan_step_of}
use Rattle.fq_language.specs.declared.faults.Place.TheVariants as place
use Rattle.fq_plan.specs.Stages.{columns_after, columns_of, stage_steps, stages_of}
use Rattle.fq_plan.proofs.CheckLemmas.{stages-refused}
use Rattle.fq_plan.proofs.checks.steps.check_steps.Goals as goal

pub loop-step-init : goal.loop-step-init
loop-step-init c = record {
  left = search rules;
  number = refl;
  steps = c.in-Ok.ensures.steps;
  leads = c.in-Ok.ensures.leads (columns_of c.args.sides.now);
}

pub returns-in-Err-clause-refused : goal.returns-in-Err-clause-refused
returns-in-Err-clause-refused c =
    let sides = columns_of c.args.sides.now in
    let main = c.args.main.now in
    let passed = c.loop-step.passed in
    let step = c.in-Some.step in
    let left = c.next.new.self.rest.items in
    let all = c.loop-step.invariant.left ∙ ap (λ rest. c.loop-step.yielded ++ rest) c.in-Some.ensures.steps.0 in
    let parts : map plan_step_of c.args.steps.items ≡ stage_steps (stages_of passed) ++ (plan_step_of step ∷ map plan_step_of left) =
    ap (map plan_step_of) all ∙ map-append plan_step_of c.loop-step.yielded (step ∷ left) ∙ ap (λ ss. ss ++ (plan_step_of step ∷ map plan_step_of left)) (sym c.loop-step.invariant.steps) in
    let number : 0 + length (stage_steps (stages_of passed)) ≡ c.loop-step.number =
    omega (arith, ap length c.loop-step.invariant.steps, length-map c.loop-step.yielded plan_step_of, c.loop-step.invariant.number) in
    elim c.in-Err.ensures.refused [
      | inl e ↦ inl (
          ap (judged_steps sides 0 main) parts
          ∙ stages-refused sides 0 main (stages_of passed) (plan_step_of step) (map plan_step_of left) (columns_after passed) c.in-Err.code c.loop-step.invariant.leads e
          ∙ ap (λ n. Err (refused_at (place.Step n) c.in-Err.code)) number)
      | inr memory ↦ inr (memory, omega (arith, c.loop-step.invariant.number, ap length all, length-append c.loop-step.yielded (step ∷ left)))
    ]

pub loop-step-preserved : goal.loop-step-preserved
loop-step-preserved c =
    let step = c.in-Some.step in record {
      left = c.loop-step.invariant.left ∙ ap (λ rest. c.loop-step.yielded ++ rest) c.in-Some.ensures.steps.0 ∙ sym (append_assoc c.loop-step.yielded (step ∷ []) c.next.new.self.rest.items);
      number = omega (arith, c.loop-step.invariant.number, length-append c.loop-step.yielded (step ∷ []));
      steps = c.in-Ok-add.ensures.step ∙ ap (λ ss. ss ++ (plan_step_of step ∷ [])) c.loop-step.invariant.steps ∙ sym (map-append plan_step_of c.loop-step.yielded (step ∷ []));
      leads = c.in-Ok-add.ensures.leads c.args.main.now c.loop-step.invariant.leads;
    }
