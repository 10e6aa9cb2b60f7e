use Rattle.std.proofs.Common.{ℕ, sym, subst}
use Rattle.fq_shell.specs.Arguments.{named_by}
use Rattle.fq_messages.specs.Ending.{code_of}
use Rattle.fq_program.specs.Named.{EndsAt, check_of}
use Rattle.fq_program.proofs.CheckLemmas.{comes-ends}
use Rattle.fq_program.proofs.command_line.answer_check.Goals as goal

pub returns-clause-checked : goal.returns-clause-checked
returns-clause-checked g c text inputs known tell =
    subst (λ (n : ℕ). EndsAt (code_of (check_of (named_by c.args.options.now) text inputs)) n) (sym c.answer_ending.ensures.code)
    (comes-ends (check_of (named_by c.args.options.now) text inputs) c.check_named-ending.result (c.check_named-ending.ensures.checked text inputs known tell))
