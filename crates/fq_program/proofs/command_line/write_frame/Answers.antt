use Rattle.std.proofs.Common.{inr, refl, subst, sym}
use Rattle.fq_messages.specs.Ending.{IsOutside}
use Rattle.fq_program.proofs.NamedLemmas.{guarded-here, guarded-refused, guarded-there, left-here, left-there, outside-unplaced, settings-in-range, text-ends}
use Rattle.fq_program.proofs.command_line.write_frame.Goals as goal

pub returns-in-None-clause-ended : goal.returns-in-None-clause-ended
returns-in-None-clause-ended g c texts tell =
    let size = c.batch_size-batch_size in
    let number = c.workers-workers in
    left-here _ _ _ _ _ _ c.run_over.result (sym c.in-None.ensures)
    (text-ends c.args.plan.now texts _ c.run_over.result (c.run_over.ensures.printed texts tell)
    (c.run_over.ensures.failed texts tell (settings-in-range size.result number.result size.ensures.positive size.ensures.not_too_many number.ensures.positive number.ensures.not_too_many)))

pub returns-in-Ok-clause-ended : goal.returns-in-Ok-clause-ended
returns-in-Ok-clause-ended g c texts tell =
    left-there _ _ _ _ _ _ c.in-Some.name.now _ c.run_to_file.result (sym c.in-Some.ensures) c.in-Ok.ensures.told (rw c.in-Ok.ensures.same at c.run_to_file.ensures.ended texts tell)

pub returns-in-Err-clause-ended : goal.returns-in-Err-clause-ended
returns-in-Err-clause-ended g c texts tell = inr (subst IsOutside (sym c.failure_of_write.ensures) (outside-unplaced _))

pub returns-in-None-clause-guarded : goal.returns-in-None-clause-guarded
returns-in-None-clause-guarded g c = guarded-here _ _ _ _ _ c.run_over.result (sym c.in-None.ensures) refl c.run_over.ensures.unwritten

pub returns-in-Ok-clause-guarded : goal.returns-in-Ok-clause-guarded
returns-in-Ok-clause-guarded g c =
    guarded-there _ _ _ _ c.run_to_file.result (rw c.in-Ok.ensures.same at c.run_to_file.ensures.untouched)
    (rw (c.in-Ok.ensures.same, c.in-Some.ensures) at c.run_to_file.ensures.others)

pub returns-in-Err-clause-guarded : goal.returns-in-Err-clause-guarded
returns-in-Err-clause-guarded g c = guarded-refused (Unit {0}) _ _ _ _ _ c.in-Err.ensures.same
