use Rattle.std.proofs.Common.{Ok, Some, [], refl, subst, sym, ◌∙◌}
use Rattle.fq_csv.specs.RecordScan.{HandsOutRun, HasRunForm}
use Rattle.fq_csv.specs.Taking.{FieldRun, RecordStream}
use Rattle.std.specs.Prelude.{◌≡◌, Option}
use Rattle.fq_run.proofs.FeedLemmas.{next-fault, next-run, no-run}
use Rattle.fq_run.proofs.file_feeds.FileFeedFeed.next.Goals as goal

pub returns-in-Ok-Some-clause-gives : goal.returns-in-Ok-Some-clause-gives
returns-in-Ok-Some-clause-gives g c xs h =
    let old = c.self.inside.records in
    let new = c.next_run.new.self in
    let given = c.in-Ok-Some.field-0-is in
    next-run old new c.self.inside.ended c.args.self.now c.in-Ok-Some.run' xs (sym c.self.view_is) c.if-self.false
    (subst (λ (o : Option FieldRun). HasRunForm old (Ok o) new) given c.in-Ok-Some.ensures.form)
    (subst (λ (o : Option FieldRun). (u : RecordStream) → old.upcoming ≡ Some u → HandsOutRun old.file old.run_size u (Ok o) new.upcoming) given c.in-Ok-Some.ensures.stream)
    h

pub returns-in-Ok-None-clause-gives : goal.returns-in-Ok-None-clause-gives
returns-in-Ok-None-clause-gives g c =
    let old = c.self.inside.records in
    let new = c.next_run.new.self in
    no-run old new c.self.inside.ended c.args.self.now (sym c.self.view_is) c.if-self.false
    (subst (λ (o : Option FieldRun). (u : RecordStream) → old.upcoming ≡ Some u → HandsOutRun old.file old.run_size u (Ok o) new.upcoming) c.in-Ok-None.field-0-is c.in-Ok-None.ensures.stream)

pub returns-in-None-clause-gives : goal.returns-in-None-clause-gives
returns-in-None-clause-gives g c xs h =
    next-fault c.self.inside.records c.next_run.new.self c.self.inside.ended c.args.self.now c.in-Err.fault xs (sym c.self.view_is) c.if-self.false c.in-Err.ensures.stream (sym c.failure_of.ensures ∙ c.in-None.is) (h.1 [] refl tt)
