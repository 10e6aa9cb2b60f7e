use Rattle.std.proofs.Common.{[], ap}
use Rattle.std.proofs.lemmas.Result.{IfOk-weaker}
use Rattle.fq_run.proofs.OperatorLemmas.{giving-start}
use Rattle.fq_run.proofs.operators.joining.Joining.take.Goals as goal

pub go_on-requires : goal.go_on-requires
go_on-requires c =
    let m = c.requires.0 in
    let rows = c.requires.1.0 in
    let same = c.requires.1.1.0 in
    let t = c.requires.1.1.1 in
    let e = c.new-probe.ensures in
    (m, (rows, (c.args.batch, ([], giving-start c.args.self.now m rows c.args.batch c.new-probe.result t same (e.parts.0, e.parts.1, ap (λ f. f.given) e.parts.2) (e.all c.args.self.now.table)))))

pub returns : goal.returns
returns c =
    let e = c.new-probe.ensures in
    IfOk-weaker c.go_on.result _ _ (λ p made m rows same t.
    made m rows c.args.batch [] (giving-start c.args.self.now m rows c.args.batch c.new-probe.result t same (e.parts.0, e.parts.1, ap (λ f. f.given) e.parts.2) (e.all c.args.self.now.table))) c.go_on.ensures
