use Rattle.std.proofs.lemmas.List.{take-replicate}
use Rattle.fq_notation.proofs.decimals.zeros.Goals as goal

pub returns : goal.returns
returns c = take-replicate c.args.count 18 48 c.requires
