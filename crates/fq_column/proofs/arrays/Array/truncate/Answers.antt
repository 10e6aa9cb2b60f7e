use Rattle.fq_column.proofs.ArrayLemmas.{array_of-take}
use Rattle.fq_column.proofs.arrays.Array.truncate.Goals as goal

pub returns : goal.returns
returns g c = rw (← c.self.view_is, c.truncate.ensures.items, c.truncate-2.ensures) (array_of-take c.args.n c.self.inside.validity c.self.inside.values.items)
