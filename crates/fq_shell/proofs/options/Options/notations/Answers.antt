use Rattle.std.proofs.Common.{◌≡◌, List, subst}
use Rattle.std.specs.Prelude.{IfOk}
use Rattle.clap.specs.Words.{Text}
use Rattle.fq_shell.specs.Arguments.{named_by}
use Rattle.fq_shell.specs.Notations.{notations_in}
use Rattle.fq_shell.proofs.options.Options.notations.Goals as goal

pub returns : goal.returns
unfolding named_by
returns c =
    subst (λ (lists : List Text × List Text). IfOk c.notations_in.result (λ named. named ≡ notations_in lists.0 lists.1))
    (λ i. (c.decimals.ensures i, c.lists.ensures i)) c.notations_in.ensures
