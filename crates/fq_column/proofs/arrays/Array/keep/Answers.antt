use Rattle.std.proofs.Common.{◌∙◌, ap, sym, length, arith}
use Rattle.fq_column.proofs.ArrayLemmas.{length-array_of, array_of-keep}
use Rattle.fq_column.proofs.ListLemmas.{length-keep}
use Rattle.fq_column.proofs.arrays.Array.keep.Goals as goal

pub compact-requires : goal.compact-requires
compact-requires g c = grind (arith, c.requires ∙ ap length (sym c.self.view_is) ∙ length-array_of c.self.inside.validity c.self.inside.values.items c.self.invariant)

pub keep-requires : goal.keep-requires
keep-requires g c = c.requires ∙ ap length (sym c.self.view_is) ∙ length-array_of c.self.inside.validity c.self.inside.values.items c.self.invariant ∙ c.self.invariant

pub invariant_of-self : goal.invariant_of-self
invariant_of-self g c = rw (c.compact.ensures, c.keep.ensures) (length-keep c.args.mask.now c.self.inside.values.items c.self.inside.validity c.self.invariant)

pub returns : goal.returns
returns g c = rw (← c.self.view_is, c.compact.ensures, c.keep.ensures) (array_of-keep c.args.mask.now c.self.inside.validity c.self.inside.values.items c.self.invariant)
