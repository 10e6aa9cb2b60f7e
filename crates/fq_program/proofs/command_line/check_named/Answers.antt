use Rattle.std.proofs.Common.{◌≡◌, ◌∙◌, Ok, Result, Some, sym, subst}
use Rattle.std.proofs.lemmas.Result.{err_from_is_err_and}
use Rattle.fq_shell.specs.Arguments.{named_by, plan_text}
use Rattle.fq_messages.specs.declared.failures.Failure.{Failure}
use Rattle.fq_program.specs.Named.{ComesTo}
use Rattle.fq_program.proofs.NamedLemmas.{check-fails, check-of, named-fails, plan-fails, planned-fine}
use Rattle.fq_program.proofs.command_line.check_named.Goals as goal

pub returns-in_err-named-clause-checked : goal.returns-in_err-named-clause-checked
returns-in_err-named-clause-checked g c text inputs known tell =
    let exit = err_from_is_err_and c.from_residual.result c.from_residual.ensures.1 in
    let names = named_by c.args.options.now in
    rw (exit.1, exit.2) (check-fails names text inputs _ (named-fails names text _ (c.in_err-named.ensures.told text known)))

pub returns-in-Ok-clause-checked : goal.returns-in-Ok-clause-checked
returns-in-Ok-clause-checked g c text inputs known tell =
    let names = named_by c.args.options.now in
    let told = c.in_ok-named.ensures.told text known in
    let here : plan_text (g.O.Opener.bytes_of c.judge_names.new.files) names ≡ Some text = rw c.judge_names.ensures.same known in
    let in_text = c.in-Ok.ensures.planned text here in
    subst (λ (o : Result (Unit {0}) Failure). ComesTo o c.check_by_text.result)
    (sym (check-of names text inputs (Ok c.in-Ok.plan) (planned-fine names text c.in_ok-named.named told.0 told.1 ∙ in_text)))
    (c.check_by_text.ensures.checked inputs c.in-Ok.plan (rw (c.in-Ok.ensures.same, c.judge_names.ensures.same) tell) (rw (c.as_slice.ensures.value, c.in-Ok.ensures.learned text here) in_text))

pub returns-clause-checked : goal.returns-clause-checked
returns-clause-checked g c text inputs known tell =
    let names = named_by c.args.options.now in
    let told = c.in_ok-named.ensures.told text known in
    check-fails names text inputs c.in-Err.failure
    (plan-fails names text c.in_ok-named.named c.in-Err.failure told.0 told.1 (c.in-Err.ensures.planned text (rw c.judge_names.ensures.same known)))
