use Rattle.std.proofs.Common.{◌∙◌, arith, ap, subst, sym}
use Rattle.std.proofs.lemmas.Result.{IfOk-at_ok}
use Rattle.fq_run.specs.Standing.{TailTakes}
use Rattle.fq_run.specs.TailState.{TailState}
use Rattle.fq_run.proofs.run_tail.RunTailTail.take.Goals as goal
use Rattle.fq_run.proofs.run_tail.RunTailTail.take.Goals.{then-file-self, else-file-self}

pub returns-in-Ok-clause-ok : goal.returns-in-Ok-clause-ok
returns-in-Ok-clause-ok g c notations =
    let files = ap (λ (t : TailState g.row.S.Denot). t.side_files) c.self.view_is in
    elim c.if-file-self.branch [
      | then-file-self w ↦ subst (λ (t : TailState g.row.S.Denot). TailTakes {S = g.row.S.Denot} (g.S.RowSink.has notations) c.args.self.now c.args.file c.args.out t) (sym w.self-is) record {
        same = w.take_before_main-taken.ensures.files;
        before_main = λ early. IfOk-at_ok _ (sym w.taken-is ∙ c.in-Ok.is) w.take_before_main-taken.ensures.taken notations;
        on_main = λ late. absurd (omega (arith, late, w.if-file-self.true, files));
      }
      | else-file-self w ↦ subst (λ (t : TailState g.row.S.Denot). TailTakes {S = g.row.S.Denot} (g.S.RowSink.has notations) c.args.self.now c.args.file c.args.out t) (sym w.self-is) record {
        same = w.take_main-taken.ensures.files;
        before_main = λ early. absurd (omega (arith, early, w.if-file-self.false, files));
        on_main = λ late. IfOk-at_ok _ (sym w.taken-is ∙ c.in-Ok.is) w.take_main-taken.ensures.taken notations;
      }
    ]
