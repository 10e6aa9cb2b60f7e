use Rattle.std.proofs.Common.{◌∙◌}
use Rattle.clap.specs.Words.{found_of}
use Rattle.clap.proofs.WalkLemmas.{raw_values-rows}
use Rattle.fq_shell.proofs.ListLemmas.{given-texts}
use Rattle.fq_shell.proofs.options.Options.lists.Goals as goal

pub returns : goal.returns
returns c =
    given-texts c.get_strs.result c.unwrap_or_default.result _ c.unwrap_or_default.ensures
    (c.get_strs.ensures ∙ raw_values-rows (found_of c.args.self.now.0) c.args.name.now)
