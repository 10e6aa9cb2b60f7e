use Rattle.std.proofs.Common.{◌≡◌, map, inr, string_bytes}
use Rattle.fq_shell.specs.Arguments.{names_of, named_by}
use Rattle.fq_program.proofs.NamedLemmas.{ends-of-names, unstarted}
use Rattle.fq_program.proofs.command_line.with_words.Goals as goal

pub returns-in-Ok-clause-run : goal.returns-in-Ok-clause-run
returns-in-Ok-clause-run g c ran =
    let named : named_by c.in-Ok.options ≡ names_of (map string_bytes c.args.words.items) = rw c.as_slice.ensures.value at c.in-Ok.ensures.taken.1 in
    ends-of-names _ _ _ _ _ _ _ _ _ named c.answer_run.ensures.run

pub returns-in-OutOfMemory-clause-run : goal.returns-in-OutOfMemory-clause-run
returns-in-OutOfMemory-clause-run g c ran = unstarted _ _ _ _ _ _ c.report.ensures.code

pub returns-in-Ok-clause-checked : goal.returns-in-Ok-clause-checked
returns-in-Ok-clause-checked g c text inputs check tell =
    let ran = rw c.as_slice.ensures.value at c.in-Ok.ensures.taken.0 in
    let other = check.other in
    absurd (cc)

pub returns-in-OutOfMemory-clause-checked : goal.returns-in-OutOfMemory-clause-checked
returns-in-OutOfMemory-clause-checked g c text inputs check tell = inr (inr c.report.ensures.code)
