use Rattle.fq_program.proofs.NamedLemmas.{run-ends}
use Rattle.fq_program.proofs.command_line.answer_run.Goals as goal

pub returns-clause-run : goal.returns-clause-run
returns-clause-run g c =
    run-ends _ _ _ _ _ _ _ _ c.run_named-ending.result _ c.answer_ending.ensures.code c.answer_ending.ensures.same c.run_named-ending.ensures.ended c.run_named-ending.ensures.guarded c.answer_ending.ensures.quiet
