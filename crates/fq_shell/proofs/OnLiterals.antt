-- What a proof unfolds to compute, at arguments that are written out, whether they are those of a run and what they name.
use Rattle.std.specs.Prelude.{⊤}
use Rattle.clap.proofs.OnLiterals.{clap_on_literals}
use Rattle.fq_shell.specs.Arguments.{check_app, is_check, is_run, names_of, names_to_check, reads_input_twice, replaces_plan, run_app}

unfoldable pub arguments_on_literals : ⊤
unfolding clap_on_literals run_app check_app is_run is_check names_of names_to_check reads_input_twice replaces_plan
arguments_on_literals = tt
