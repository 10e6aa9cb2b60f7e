use Rattle.std.proofs.Common.{ap, arith, length, sym}
use Rattle.fq_column.proofs.ValidityLemmas.{mark-behind}
use Rattle.fq_column.proofs.validity.read_mark.Goals as goal

pub returns-in-None : goal.returns-in-None
returns-in-None c = let behind = c.in-None.ensures.lookup.3 in let same = ap length c.deref.ensures.value in sym (mark-behind c.args.words.now.items c.args.i (omega (arith, behind, same)))
