use Rattle.std.proofs.Common.{◌∙◌, ap, map}
use Rattle.fq_ops.specs.Group.{same_key}
use Rattle.fq_ops.specs.KeySets.{whole_key}
use Rattle.fq_ops.proofs.KeySetLemmas.{insert-mapped, place-mapped}
use Rattle.fq_ops.proofs.key_sets.insert_whole.Goals as goal

pub returns-clause-keys : goal.returns-clause-keys
returns-clause-keys c = ap (map whole_key) c.in_ok-i.ensures.keys ∙ insert-mapped whole_key _ same_key c.whole_law.ensures c.args.seen.now.keys c.args.value

pub returns-clause-index : goal.returns-clause-index
returns-clause-index c = c.in_ok-i.ensures.index ∙ place-mapped whole_key _ (same_key (whole_key c.args.value)) (c.whole_law.ensures c.args.value) c.args.seen.now.keys
