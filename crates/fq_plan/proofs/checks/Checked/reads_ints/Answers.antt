use Rattle.std.proofs.Common.{◌∙◌, ap, sym}
use Rattle.fq_language.specs.Plan.{PlanData}
use Rattle.fq_run.specs.Noted.{reads_ints}
use Rattle.fq_plan.proofs.NotedLemmas.{reads-whole}
use Rattle.fq_plan.proofs.checks.Checked.reads_ints.Goals as goal

pub returns : goal.returns
returns c =
    let name = c.args.name.now in
    c.reads_ints.ensures
    ∙ sym (reads-whole name c.self.inside.physical.sources)
    ∙ ap (λ (q : PlanData). reads_ints q.sources name) c.self.view_is
