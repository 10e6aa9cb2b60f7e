use Rattle.std.proofs.Common.{◌≡◌, ◌∙◌, sym, subst, ℕ}
use Rattle.std.specs.Prelude.{◌⊎◌}
use Rattle.fq_messages.specs.Ending.{code_of, bad_device, no_memory}
use Rattle.fq_program.specs.Program.{program}
use Rattle.fq_messages.proofs.EndingLemmas.{ended-well, ended-as}
use Rattle.fq_program.proofs.program.one_input.Goals as goal

pub returns-clause-status : goal.returns-clause-status
returns-clause-status g c bytes known =
    subst (λ (n : ℕ). (n ≡ code_of (program bytes)) ⊎ ((n ≡ bad_device) ⊎ (n ≡ no_memory))) (sym c.report.ensures.code)
    (ended-as _ c.run_input.result (program bytes) (c.run_input.ensures.printed bytes known) (c.run_input.ensures.failed bytes known))

pub returns-clause-output : goal.returns-clause-output
returns-clause-output g c bytes known done = ended-well c.run_input.result (sym c.report.ensures.code ∙ done) (c.run_input.ensures.printed bytes known)

pub returns-clause-quiet : goal.returns-clause-quiet
returns-clause-quiet g c done = ended-well c.run_input.result (sym c.report.ensures.code ∙ done) c.report.ensures.quiet
