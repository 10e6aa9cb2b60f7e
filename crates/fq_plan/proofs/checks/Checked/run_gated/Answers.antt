use Rattle.std.proofs.Common.{subst}
use Rattle.std.specs.Prelude.{vec_len}
use Rattle.fq_plan.specs.Meaning.{meaning}
use Rattle.fq_language.specs.Plan.{PlanData, file_streams, files_wanted}
use Rattle.fq_plan.proofs.NarrowedLemmas.{answers-query}
use Rattle.fq_run.specs.Run.{IsAnswer, Tell}
use Rattle.fq_plan.proofs.checks.Checked.run_gated.Goals as goal

pub returns : goal.returns
returns g c =
    let of_plan : PlanData → Type 0 = λ q. IsAnswer (files_wanted q) (vec_len c.args.inputs) c.args.batch_size c.args.workers (Tell g.R.Read.remaining c.args.inputs.items) (file_streams q) (meaning q) q.notations (g.W.Write.contents c.args.out.now) (g.W.Write.contents c.run.new.out) c.run.result in
    subst of_plan c.self.view_is
    (answers-query c.self.inside.physical c.self.invariant (vec_len c.args.inputs) c.args.batch_size c.args.workers (Tell g.R.Read.remaining c.args.inputs.items) (g.W.Write.contents c.args.out.now) (g.W.Write.contents c.run.new.out) c.run.result c.run.ensures)
