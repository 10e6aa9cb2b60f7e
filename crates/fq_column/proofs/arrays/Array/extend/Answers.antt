use Rattle.fq_column.proofs.ArrayLemmas.{array_of-append}
use Rattle.fq_column.proofs.arrays.Array.extend.Goals as goal

pub returns-clause-ok : goal.returns-clause-ok
returns-clause-ok g c =
    rw (← c.self.view_is, ← c.other.view_is, c.in_ok-append.ensures.ok, c.in-Ok.ensures.items)
    (array_of-append c.self.inside.validity c.other.inside.validity c.self.inside.values.items c.other.inside.values.items c.self.invariant)
