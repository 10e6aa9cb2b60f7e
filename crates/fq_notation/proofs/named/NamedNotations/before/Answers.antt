use Rattle.std.proofs.Common.{arith}
use Rattle.std.proofs.lemmas.List.{map-append}
use Rattle.fq_notation.proofs.named.NamedNotations.before.Goals as goal

pub returns : goal.returns
returns c = grind (arith, map-append, c.in_ok-append.ensures.items, c.others.view_is)
