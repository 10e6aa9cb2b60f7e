use Rattle.std.proofs.Common.{◌≡◌, map, ap, sym, ◌∙◌, rules}
use Rattle.std.specs.Option.{is_some}
use Rattle.fq_column.specs.Frame.{has_name, names_of, same_name}
use Rattle.fq_language.specs.Plan.{row_wise}
use Rattle.fq_plan.specs.Needed.{needed_before_all}
use Rattle.fq_plan.specs.Stages.{columns_after, stage_steps}
use Rattle.fq_plan.proofs.NeedLemmas.{before-append, is_some-position}
use Rattle.fq_plan.proofs.checks.steps.PassedSteps.need.Goals as goal

pub returns : goal.returns
returns c =
    let p = c.args.self.now in
    let n = c.args.name.now in
    let frame = names_of (columns_after p) in
    let tested : c.is_some-last.result ≡ is_some c.position.result = search rules in
    let last : has_name frame n ≡ c.is_some-last.result =
    sym (tested ∙ ap is_some c.position.ensures ∙ is_some-position (same_name n) (names_of c.schema.result.now) ∙ ap (λ fs. has_name (names_of fs) n) c.schema.ensures) in
    let staged = needed_before_all (stage_steps p.stages.items) frame in
    let after : has_name staged n ≡ c.stages_need-after_leading.result =
    sym (c.stages_need-after_leading.ensures frame last ∙ ap (λ ss. has_name (needed_before_all (stage_steps ss) frame) n) c.as_slice.ensures.value) in
    c.rows_need.ensures staged after
    ∙ ap (λ ss. has_name (needed_before_all (map row_wise ss) staged) n) c.steps.ensures
    ∙ ap (λ ns. has_name ns n) (sym (before-append (map row_wise p.leading.steps) (stage_steps p.stages.items) frame))
