use Rattle.std.proofs.Common.{◌≡◌, sym, subst, ◌∙◌}
use Rattle.std.specs.Prelude.{IsOk}
use Rattle.fq_language.specs.Judged.{judged}
use Rattle.fq_language.specs.Plan.{PlanData, files_wanted}
use Rattle.fq_plan.specs.Stages.{plan_of}
use Rattle.fq_plan.proofs.PreparedLemmas.{checked-passes}
use Rattle.fq_plan.proofs.WholeSourceLemmas.{wanted-whole}
use Rattle.fq_plan.proofs.checks.Checked.inputs.Goals as goal

pub returns-clause-inputs : goal.returns-clause-inputs
returns-clause-inputs c = subst (λ (q : PlanData). c.inputs.result ≡ files_wanted q) c.self.view_is (c.inputs.ensures ∙ sym (wanted-whole (plan_of c.self.inside.physical)))

pub returns-clause-not_refused : goal.returns-clause-not_refused
returns-clause-not_refused c = subst (λ (q : PlanData). IsOk (judged q)) c.self.view_is (checked-passes c.self.inside.physical c.self.invariant)
