use Rattle.std.proofs.Common.{arith, subst}
use Rattle.fq_ops.specs.Probing.{GivesPart}
use Rattle.fq_ops.specs.declared.probes.Rest.{Rest}
use Rattle.fq_run.proofs.OperatorLemmas.{any-fits, part-last, part-more}
use Rattle.fq_run.proofs.operators.joining.Joining.go_on.Goals.{in-More, in-End}
use Rattle.fq_run.proofs.operators.joining.Joining.go_on.Goals as goal

pub overflow_sub-self : goal.overflow_sub-self
overflow_sub-self c =
    let r = c.requires in
    let part = c.in_ok-batch.field-0 in
    let fits = any-fits c.args.self.now r.0 r.1.0 r.1.1.0 r.1.1.1.0 c.args.probe r.1.1.1.1 part.batch.rows part.rest c.in_ok-batch.ensures.rows in
    omega (arith, fits, c.rows.ensures.rows)

pub returns : goal.returns
returns c m rows batch given g =
    let j = c.args.self.now in
    let part = c.in_ok-batch.field-0.batch in
    let gives = c.in_ok-batch.ensures.rows in
    let Gives : Rest → Type 0 = λ r. GivesPart j.table c.args.probe part.rows r in
    elim c.match-rest.branch [
      | in-More w ↦ rw (w.fault-is, c.rows.ensures.rows) (part-more j m rows batch given c.args.probe g part w.in-More.probe c.in_ok-batch.ensures.fields (subst Gives w.in-More.is gives))
      | in-End w ↦ rw (w.fault-is, c.rows.ensures.rows) (part-last j m rows batch given c.args.probe g part w.in-End.full _ c.in_ok-batch.ensures.fields (subst Gives w.in-End.is gives) w.full_at.ensures)
    ]
