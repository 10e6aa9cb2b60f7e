use Rattle.std.proofs.Common.{Ok, Err, map, string_bytes}
use Rattle.std.proofs.lemmas.Result.{err_from_is_err_and}
use Rattle.clap.specs.Words.{app_of}
use Rattle.fq_shell.specs.Arguments.{named_by}
use Rattle.fq_shell.proofs.RunCommand.{check-parsed}
use Rattle.fq_shell.proofs.options.Options.of_check.Goals as goal

pub returns-clause-taken : goal.returns-clause-taken
unfolding named_by
returns-clause-taken c =
    let parse = c.in_ok-try_get_matches_from in
    check-parsed (app_of c.in_ok-check_command.field-0) (map string_bytes c.args.words.now) (Ok parse.field-0) c.in_ok-check_command.ensures parse.ensures.matches parse.ensures.kinds

pub returns-in_err-try_get_matches_from-clause-refused : goal.returns-in_err-try_get_matches_from-clause-refused
returns-in_err-try_get_matches_from-clause-refused c =
    let exit = err_from_is_err_and c.from_residual-in_err-try_get_matches_from.result c.from_residual-in_err-try_get_matches_from.ensures.1 in
    let parse = c.in_err-try_get_matches_from in
    rw (exit.1, exit.2) (check-parsed (app_of c.in_ok-check_command.field-0) (map string_bytes c.args.words.now) (Err parse.field-0.0) c.in_ok-check_command.ensures parse.ensures.matches parse.ensures.kinds)
