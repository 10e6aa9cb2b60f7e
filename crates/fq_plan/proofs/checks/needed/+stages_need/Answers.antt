use Rattle.std.proofs.Common.{◌≡◌, ◌∷◌, ap, sym, ◌∙◌, rules}
use Rattle.fq_column.specs.Frame.{has_name}
use Rattle.fq_plan.specs.Needed.{needed_before_all}
use Rattle.fq_plan.specs.Stages.{operator_steps, stage_steps}
use Rattle.fq_plan.proofs.NeedLemmas.{before-append}
use Rattle.fq_plan.proofs.checks.needed.+stages_need.Goals as goal

pub returns-in-Some : goal.returns-in-Some
returns-in-Some t c needed e =
    let stage = c.in-Some.stage.now in
    let rest = c.in-Some.rest.now in
    let parts : c.args.stages.now ≡ stage ∷ rest = search rules in
    c.operator_needs.ensures (needed_before_all (stage_steps rest) needed) (sym (c.stages_need.ensures needed e))
    ∙ ap (λ ns. has_name ns c.args.name.now) (sym (before-append (operator_steps stage.operator) (stage_steps rest) needed))
    ∙ ap (λ ss. has_name (needed_before_all (stage_steps ss) needed) c.args.name.now) (sym parts)
