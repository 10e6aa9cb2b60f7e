use Rattle.fq_shell.specs.Arguments.{named_by}
use Rattle.fq_shell.proofs.options.Options.files.Goals as goal

pub returns : goal.returns
unfolding named_by
returns c = c.lists.ensures
