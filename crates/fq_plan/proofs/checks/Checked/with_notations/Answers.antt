use Rattle.std.proofs.Common.{◌∙◌, ap, sym, subst}
use Rattle.fq_language.specs.Plan.{PlanData}
use Rattle.fq_plan.specs.Noted.{frame_named}
use Rattle.fq_plan.specs.Stages.{query_of, IsChecked}
use Rattle.fq_plan.proofs.NotedLemmas.{checked-noted, noted_as, query-noted}
use Rattle.fq_plan.proofs.checks.Checked.with_notations.Goals as goal

pub returns-clause-noted : goal.returns-clause-noted
returns-clause-noted c =
    let named = c.args.named.now in
    let last = c.in_ok-last.last in (
      c.in_ok-last.ensures.noted.0,
      ap query_of c.in_ok-physical.ensures
          ∙ query-noted named last c.self.inside.physical c.self.invariant
          ∙ (λ i. noted_as named (c.in_ok-last.ensures.noted.1 i) (query_of c.self.inside.physical))
          ∙ ap (λ (q : PlanData). noted_as named (frame_named named c.args.self) q) c.self.view_is,
    )

pub invariant_of-result : goal.invariant_of-result
invariant_of-result c = subst IsChecked (sym c.in_ok-physical.ensures) (checked-noted c.args.named.now c.in_ok-last.last c.self.inside.physical c.self.invariant)
