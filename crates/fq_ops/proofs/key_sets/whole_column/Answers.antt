use Rattle.std.proofs.Common.{◌≡◌, ◌<◌, ◌∙◌, [], get_or, length, map, refl, ap, arith}
use Rattle.fq_column.specs.Column.{nullable}
use Rattle.fq_column.specs.Frame.{value_at}
use Rattle.fq_column.specs.declared.cells.Cell.TheVariants.{Whole}
use Rattle.fq_ops.specs.KeySets.{whole_key}
use Rattle.fq_ops.proofs.FinishLemmas.{key-more}
use Rattle.fq_ops.proofs.KeySetLemmas.{none-at, whole-at}
use Rattle.fq_ops.proofs.key_sets.whole_column.Goals as goal
use Rattle.fq_ops.proofs.key_sets.whole_column.Goals.{then-place-eq0, else-place-eq0}

pub loop-i-preserved : goal.loop-i-preserved
loop-i-preserved c =
    let values = c.args.values.now in
    let keys = map whole_key values in
    let i = c.loop-i.i in
    let low : i < length values = omega arith in
    let value : nullable Whole c.if-place-eq0.value ≡ value_at c.args.place (get_or keys i []) = elim c.if-place-eq0.branch [
      | then-place-eq0 w ↦ whole-at values i c.args.place c.if-place-eq0.value _ low (omega (arith, w.if-place-eq0.true)) w.value-is
      | else-place-eq0 w ↦ ap (nullable Whole) w.value-is ∙ none-at values i c.args.place low (omega (arith, w.if-place-eq0.false))
    ] in
    key-more c.args.kind keys c.args.place i c.loop-i.column c.push_cell.new.column (get_or keys i []) c.whole_cell-cell.result c.loop-i.invariant refl (c.whole_cell-cell.ensures ∙ value) c.in_ok-push_cell.ensures
