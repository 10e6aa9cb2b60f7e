use Rattle.std.proofs.Common.{◌∙◌, codes}
use Rattle.clap.specs.Words.{found_of}
use Rattle.clap.proofs.WalkLemmas.{first_value-rows}
use Rattle.fq_shell.specs.Arguments.{named_by}
use Rattle.fq_shell.proofs.options.Options.plan.Goals as goal

pub returns : goal.returns
unfolding named_by
returns c = c.get_str.ensures ∙ first_value-rows (found_of c.args.self.now.0) (codes "plan")
