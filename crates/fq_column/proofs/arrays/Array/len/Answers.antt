use Rattle.std.proofs.Common.{arith}
use Rattle.fq_column.proofs.ArrayLemmas.{length-array_of}
use Rattle.fq_column.proofs.arrays.Array.len.Goals as goal

pub returns : goal.returns
returns g c = rw (← c.self.view_is) (grind (arith, length-array_of c.self.inside.validity c.self.inside.values.items c.self.invariant))
