use Rattle.std.proofs.Common.{ap, arith, length}
use Rattle.std.proofs.lemmas.Slice.Zip.{length-zip}
use Rattle.fq_ops.proofs.pairs.Pairs.len.Goals as goal

pub returns : goal.returns
returns c = omega (arith, c.len.ensures, c.self.invariant, length-zip c.self.inside.left.items c.self.inside.right.items, ap length c.self.view_is)
