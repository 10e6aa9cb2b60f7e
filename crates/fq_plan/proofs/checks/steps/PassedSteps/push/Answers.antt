use Rattle.std.proofs.Common.{◌∷◌, List, map, subst, sym}
use Rattle.fq_csv.specs.Sources.{last_or}
use Rattle.fq_plan.specs.Stages.{leading_stage, Leads}
use Rattle.fq_run.specs.declared.stages.Stage.{Stage}
use Rattle.fq_plan.proofs.CheckLemmas.{stage-further}
use Rattle.fq_plan.proofs.checks.steps.PassedSteps.push.Goals as goal

pub returns-clause-leads : goal.returns-clause-leads
returns-clause-leads c sides main leads number turns =
    let p = c.args.self.now in
    let stage : Stage = record { number = c.args.number; operator = c.args.checked.0; after = c.args.checked.1 } in
    subst (λ (ss : List Stage). Leads sides 0 main (leading_stage p.leading p.after_leading ∷ ss) (last_or p.after_leading (map (λ (t : Stage). t.after) ss))) (sym c.in_ok-push.ensures.items)
    (stage-further sides p stage number turns main leads)
