use Rattle.std.proofs.Common.{◌∷◌, [], refl}
use Rattle.fq_program.proofs.program.run_file.Goals as goal

pub returns-clause-printed : goal.returns-clause-printed
returns-clause-printed g c = c.run_over.ensures.printed (c.args.file.now ∷ []) (rw c.in_ok-inputs.ensures.items refl)

pub returns-clause-failed : goal.returns-clause-failed
returns-clause-failed g c = c.run_over.ensures.failed (c.args.file.now ∷ []) (rw c.in_ok-inputs.ensures.items refl) refl
