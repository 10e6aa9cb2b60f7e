use Rattle.std.proofs.Common.{◌≡◌, ◌∙◌, ℕ, Some, Err, Ok, ap, length, rules, subst, sym}
use Rattle.std.proofs.lemmas.Result.{err_from_is_err_and}
use Rattle.fq_language.specs.Plan.{files_wanted}
use Rattle.fq_run.specs.Run.{start_refusal, IsStartFault}
use Rattle.fq_messages.specs.declared.failures.Failure.TheVariants.{Run}
use Rattle.fq_program.proofs.ClauseLemmas.{StopsAsRefused, as-many, start_at, run-printed, run-failed}
use Rattle.fq_program.proofs.program.run_over.Goals as goal

pub returns-clause-printed : goal.returns-clause-printed
returns-clause-printed g c files tell =
    let plan = c.args.plan.now in
    let held : c.args.inputs.len ≡ length c.args.inputs.items = search rules in
    let many : c.args.inputs.len ≡ length files = held ∙ as-many g.R.Read.remaining c.args.inputs.items files tell in
    let ran = c.in_ok-run.ensures.printed files tell in
    let refused : StopsAsRefused c.args.batch_size c.args.workers plan files (Ok c.in_ok-run.field-0) =
    λ f e. c.in_ok-run.ensures.refused f (subst (λ (n : ℕ). start_refusal (files_wanted plan) n c.args.batch_size c.args.workers ≡ Some f) (sym many) e) in
    (ran.0, run-printed c.args.batch_size c.args.workers plan files c.in_ok-run.field-0 ran.0 refused ran.1, ran.2)

pub returns-in_err-run-clause-failed : goal.returns-in_err-run-clause-failed
returns-in_err-run-clause-failed g c files tell fine =
    let exit = err_from_is_err_and c.from_residual.result c.from_residual.ensures.1 in
    let plan = c.args.plan.now in
    let held : c.args.inputs.len ≡ length c.args.inputs.items = search rules in
    let many : c.args.inputs.len ≡ length files = held ∙ as-many g.R.Read.remaining c.args.inputs.items files tell in
    let f = c.in_err-run.field-0.0 in
    let started : IsStartFault f → start_at c.args.batch_size c.args.workers plan files ≡ Some f =
    λ h. subst (λ (n : ℕ). start_refusal (files_wanted plan) n c.args.batch_size c.args.workers ≡ Some f) many (c.in_err-run.ensures.started h) in
    rw (exit.1, exit.2) (run-failed c.args.batch_size c.args.workers plan files f fine
    (λ h e. c.in_err-run.ensures.refused h (subst (λ (n : ℕ). start_refusal (files_wanted plan) n c.args.batch_size c.args.workers ≡ Some h) (sym many) e)) started (c.in_err-run.ensures.fault files tell))

pub returns-clause-refused : goal.returns-clause-refused
returns-clause-refused g c f e = let bad = c.in_ok-run.ensures.refused f e in absurd (cc)

pub returns-in_err-run-clause-refused : goal.returns-in_err-run-clause-refused
returns-in_err-run-clause-refused g c f e =
    let exit = err_from_is_err_and c.from_residual.result c.from_residual.ensures.1 in
    let stopped = c.in_err-run.ensures.refused f e in
    let same : c.in_err-run.field-0.0 ≡ f = cc in
    exit.1 ∙ ap Err (exit.2 ∙ ap Run same)
