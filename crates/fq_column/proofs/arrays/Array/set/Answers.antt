use Rattle.std.proofs.Common.{ap, length, arith}
use Rattle.fq_column.proofs.ArrayLemmas.{length-array_of, array_of-set}
use Rattle.fq_column.proofs.arrays.Array.set.Goals as goal

pub index_mut-requires : goal.index_mut-requires
index_mut-requires g c = grind (arith, c.requires, ap length c.self.view_is, length-array_of c.self.inside.validity c.self.inside.values.items c.self.invariant)

pub set-requires : goal.set-requires
set-requires g c = grind (arith, c.requires, ap length c.self.view_is, length-array_of c.self.inside.validity c.self.inside.values.items c.self.invariant, c.self.invariant)

pub returns : goal.returns
returns g c =
    rw (← c.self.view_is, c.set.ensures)
    (array_of-set c.self.inside.validity c.self.inside.values.items c.args.i c.args.value c.self.invariant)
