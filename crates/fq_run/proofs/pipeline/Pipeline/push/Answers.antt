use Rattle.std.proofs.lemmas.Result.{on_ok_weaker}
use Rattle.fq_run.specs.RunningOperators.{rows_in}
use Rattle.fq_run.proofs.PipelineLemmas.{run-on}
use Rattle.fq_run.proofs.pipeline.Pipeline.push.Goals as goal

pub returns-clause-goes_on : goal.returns-clause-goes_on
returns-clause-goes_on g c =
    on_ok_weaker c.pass.result (λ p notations w rows out run under.
    let on = p notations w.transforms rows w.before w.after run.taken run.chain under in
    let more = run-on {S = g.row.S.Denot} (g.S.RowSink.has notations) c.args.self.now.operators.items c.pass.new.self.operators.items w rows out (rows_in c.args.input.batch) c.args.sink.now c.pass.new.sink run on.1 in
    (more.0, (on.0, more.1))) c.pass.ensures.goes_on
