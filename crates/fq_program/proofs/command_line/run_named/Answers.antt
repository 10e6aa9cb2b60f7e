use Rattle.std.proofs.Common.{◌∙◌, inr}
use Rattle.std.proofs.lemmas.Result.{err_from_is_err_and}
use Rattle.fq_shell.specs.Arguments.{named_by}
use Rattle.fq_program.specs.Named.{planned}
use Rattle.fq_program.proofs.NamedLemmas.{answers-planned, answers-refused, guarded-refused, named-fails, plan-fails, planned-fine}
use Rattle.fq_program.proofs.command_line.run_named.Goals as goal

pub returns-in_err-named-clause-ended : goal.returns-in_err-named-clause-ended
returns-in_err-named-clause-ended g c text known =
    let exit = err_from_is_err_and c.from_residual.result c.from_residual.ensures.1 in
    let names = named_by c.args.options.now in
    rw (exit.1, exit.2) (answers-refused (Unit {0}) (planned names text) _ _ (named-fails names text _ (c.in_err-named.ensures.told text known)) (λ p outside files tell. inr outside))

pub returns-in-Ok-clause-ended : goal.returns-in-Ok-clause-ended
returns-in-Ok-clause-ended g c text known =
    let names = named_by c.args.options.now in
    let told = c.in_ok-named.ensures.told text known in
    let is = planned-fine names text c.in_ok-named.named told.0 told.1 ∙ c.in-Ok.ensures.planned text (rw c.judge_names.ensures.same known) in
    let same = c.in-Ok.ensures.same ∙ c.judge_names.ensures.same in
    answers-planned (planned names text) c.in-Ok.plan c.run_planned.result _ is (rw same at c.run_planned.ensures.ended)

pub returns-clause-ended : goal.returns-clause-ended
returns-clause-ended g c text known =
    let names = named_by c.args.options.now in
    let told = c.in_ok-named.ensures.told text known in
    answers-refused (Unit {0}) (planned names text) c.in-Err.failure _
    (plan-fails names text c.in_ok-named.named c.in-Err.failure told.0 told.1 (c.in-Err.ensures.planned text (rw c.judge_names.ensures.same known)))
    (λ p outside files tell. inr outside)

pub returns-in_err-named-clause-guarded : goal.returns-in_err-named-clause-guarded
returns-in_err-named-clause-guarded g c =
    let exit = err_from_is_err_and c.from_residual.result c.from_residual.ensures.1 in
    rw exit.1 (guarded-refused (Unit {0}) _ _ _ _ _ c.judge_names.ensures.same)

pub returns-in-Ok-clause-guarded : goal.returns-in-Ok-clause-guarded
returns-in-Ok-clause-guarded g c =
    let same = c.in-Ok.ensures.same ∙ c.judge_names.ensures.same in
    rw same at c.run_planned.ensures.guarded

pub returns-clause-guarded : goal.returns-clause-guarded
returns-clause-guarded g c = guarded-refused (Unit {0}) _ _ _ _ _ (c.in-Err.ensures.same ∙ c.judge_names.ensures.same)
