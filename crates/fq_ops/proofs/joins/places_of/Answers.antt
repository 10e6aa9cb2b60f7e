use Rattle.std.proofs.Common.{sym, ◌∙◌}
use Rattle.fq_ops.proofs.PairLemmas.{group-found, group-absent, index-matches}
use Rattle.fq_ops.proofs.joins.places_of.Goals as goal

pub returns-in-Some : goal.returns-in-Some
returns-in-Some c = λ nulls_equal key count h.
    let k = c.args.key.now.cells in
    c.as_slice.ensures ∙ c.index.ensures
    ∙ group-found key c.args.seen.now.keys c.args.groups.now.items _ h k c.in-Some.i _ (sym c.in-Some.ensures.index)
    ∙ index-matches nulls_equal key count k

pub returns-in-None : goal.returns-in-None
returns-in-None c = λ nulls_equal key count h.
    let k = c.args.key.now.cells in
    sym (group-absent key c.args.seen.now.keys c.args.groups.now.items _ h k (sym c.in-None.ensures.found)) ∙ index-matches nulls_equal key count k
