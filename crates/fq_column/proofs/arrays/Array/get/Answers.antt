use Rattle.std.proofs.Common.{◌∙◌, ap, sym, length, arith, Some}
use Rattle.std.specs.Prelude.{slice_get}
use Rattle.fq_column.specs.Lists.{value_if}
use Rattle.fq_column.proofs.ArrayLemmas.{length-array_of, array_of-get, array_of-none}
use Rattle.fq_column.proofs.arrays.Array.get.Goals as goal

pub get-requires : goal.get-requires
get-requires g c = grind (arith, c.requires, ap length c.self.view_is, length-array_of c.self.inside.validity c.self.inside.values.items c.self.invariant, c.self.invariant)

pub index-requires : goal.index-requires
index-requires g c = grind (arith, c.requires, ap length c.self.view_is, length-array_of c.self.inside.validity c.self.inside.values.items c.self.invariant)

pub returns-then-get : goal.returns-then-get
returns-then-get g c =
    ap (λ xs. slice_get xs c.args.i) (sym c.self.view_is)
    ∙ array_of-get c.self.inside.validity c.self.inside.values.items c.args.i c.get.result c.index.result.now
    (grind (arith, c.requires, ap length c.self.view_is, length-array_of c.self.inside.validity c.self.inside.values.items c.self.invariant)) c.get.ensures c.index.ensures
    ∙ ap (λ mark. Some (value_if mark c.index.result.now)) c.if-get.true

pub returns-else-get : goal.returns-else-get
returns-else-get g c =
    ap (λ xs. slice_get xs c.args.i) (sym c.self.view_is)
    ∙ array_of-none c.self.inside.validity c.self.inside.values.items c.args.i
    (grind (arith, c.requires, ap length c.self.view_is, length-array_of c.self.inside.validity c.self.inside.values.items c.self.invariant)) (c.get.ensures ∙ ap Some c.if-get.false)
