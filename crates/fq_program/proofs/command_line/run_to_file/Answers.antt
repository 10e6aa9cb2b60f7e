use Rattle.std.proofs.Common.{inr, subst, sym}
use Rattle.std.specs.Io.KnownBytes.{Appends}
use Rattle.fq_messages.specs.Ending.{IsOutside}
use Rattle.fq_program.proofs.NamedLemmas.{outside-unplaced, settings-in-range, text-ends, written-whole}
use Rattle.fq_program.proofs.command_line.run_to_file.Goals as goal

pub returns-in-Ok-keep-clause-ended : goal.returns-in-Ok-keep-clause-ended
returns-in-Ok-keep-clause-ended g c texts tell =
    let size = c.batch_size-batch_size in
    let number = c.workers-workers in
    let appended = Appends (g.O.Output.Write.contents c.new-output.result.writer) (g.O.Output.Write.contents c.run_over-answer.new.out.writer) in
    let ran = rw c.in-Ok.is at (text-ends c.args.plan.now texts appended c.run_over-answer.result (c.run_over-answer.ensures.printed texts tell)
    (c.run_over-answer.ensures.failed texts tell (settings-in-range size.result number.result size.ensures.positive size.ensures.not_too_many number.ensures.positive number.ensures.not_too_many))) in
    let whole = subst (λ w. Appends (g.O.Output.Write.contents w) (g.O.Output.Write.contents c.run_over-answer.new.out.writer) ran.0) c.new-output.ensures.writer ran.2 in
    (ran.0, ran.1, λ empty bytes was. c.in-Ok-keep.ensures.placed bytes _ was (written-whole _ _ _ whole empty))

pub returns-in-Err-keep-clause-ended : goal.returns-in-Err-keep-clause-ended
returns-in-Err-keep-clause-ended g c texts tell = inr (subst IsOutside (sym c.failure_of_write.ensures) (outside-unplaced _))

pub returns-in-Err-clause-ended : goal.returns-in-Err-clause-ended
returns-in-Err-clause-ended g c texts tell =
    let size = c.batch_size-batch_size in
    let number = c.workers-workers in
    let appended = Appends (g.O.Output.Write.contents c.new-output.result.writer) (g.O.Output.Write.contents c.run_over-answer.new.out.writer) in
    rw c.in-Err.is at (text-ends c.args.plan.now texts appended c.run_over-answer.result (c.run_over-answer.ensures.printed texts tell)
    (c.run_over-answer.ensures.failed texts tell (settings-in-range size.result number.result size.ensures.positive size.ensures.not_too_many number.ensures.positive number.ensures.not_too_many)))
