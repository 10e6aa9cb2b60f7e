use Rattle.std.proofs.Common.{◌∙◌, ap, sym}
use Rattle.fq_plan.specs.Noted.{frame_fields}
use Rattle.fq_plan.proofs.NotedLemmas.{frame-fields}
use Rattle.fq_plan.proofs.checks.Checked.columns.Goals as goal

pub returns : goal.returns
returns c = c.columns.ensures ∙ sym (frame-fields c.self.inside.physical c.self.invariant) ∙ ap frame_fields c.self.view_is
