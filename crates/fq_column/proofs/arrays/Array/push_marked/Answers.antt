use Rattle.std.proofs.Common.{[], ◌∷◌}
use Rattle.fq_column.proofs.ArrayLemmas.{array_of-append}
use Rattle.fq_column.proofs.arrays.Array.push_marked.Goals as goal

pub returns-clause-ok : goal.returns-clause-ok
returns-clause-ok g c =
    rw (← c.self.view_is, c.in_ok-push.ensures.ok, c.in-Ok.ensures.items)
    (array_of-append c.self.inside.validity (c.args.mark ∷ []) c.self.inside.values.items (c.args.value ∷ []) c.self.invariant)
