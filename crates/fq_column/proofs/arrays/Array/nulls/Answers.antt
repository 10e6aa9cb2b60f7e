use Rattle.std.proofs.Common.{◌≡◌, ◌∙◌, ap, arith, length}
use Rattle.fq_column.specs.Lists.{zip_with, value_if}
use Rattle.fq_column.proofs.ArrayLemmas.{array_of-missing}
use Rattle.fq_column.proofs.arrays.Array.nulls.Goals as goal

pub returns : goal.returns
returns g c =
    let values = c.loop.values.items in
    let size : length values ≡ c.args.count = omega (arith, c.loop.invariant, c.loop-test.false, c.loop.auto.counter-end) in
    ap (λ v. zip_with value_if v values) c.in_ok-validity.ensures ∙ array_of-missing c.args.count values size
