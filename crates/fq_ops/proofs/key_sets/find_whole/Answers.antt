use Rattle.std.proofs.Common.{◌∙◌}
use Rattle.fq_column.proofs.ListLemmas.{any-mapped}
use Rattle.fq_ops.specs.Group.{same_key}
use Rattle.fq_ops.specs.KeySets.{whole_key}
use Rattle.fq_ops.proofs.KeySetLemmas.{position-mapped}
use Rattle.fq_ops.proofs.key_sets.find_whole.Goals as goal

pub returns-clause-index : goal.returns-clause-index
returns-clause-index c = c.get_index_of.ensures.index ∙ position-mapped whole_key _ (same_key (whole_key c.args.value)) (c.whole_law.ensures c.args.value) c.args.seen.now.keys

pub returns-clause-found : goal.returns-clause-found
returns-clause-found c = c.get_index_of.ensures.found ∙ any-mapped whole_key _ (same_key (whole_key c.args.value)) (c.whole_law.ensures c.args.value) c.args.seen.now.keys
