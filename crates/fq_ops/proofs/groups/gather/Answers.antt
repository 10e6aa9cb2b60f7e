use Rattle.std.proofs.Common.{◌≡◌, ◌<◌, ◌-◌, length, ap, sym, ◌∙◌, arith}
use Rattle.std.proofs.lemmas.List.{get_or_default}
use Rattle.std.proofs.lemmas.Option.{get_or_from_slice_get}
use Rattle.fq_column.specs.declared.cells.Kind.TheVariants.{Whole}
use Rattle.fq_column.specs.Frame.{kinds_of}
use Rattle.fq_column.specs.Lists.{numbers}
use Rattle.fq_ops.specs.Accumulated.{Accumulated, group_pick, value_pick}
use Rattle.fq_ops.specs.Picks.{column_of}
use Rattle.fq_ops.proofs.FinishLemmas.{none, of_key, of_value, picks-more}
use Rattle.fq_ops.proofs.groups.gather.Goals as goal
use Rattle.fq_ops.proofs.groups.gather.Goals.{then-i-width+in_ok-column, else-i-width+in_ok-column-2}

pub loop-i-preserved : goal.loop-i-preserved
loop-i-preserved c =
    let keys = c.args.keys.now.keys in
    let accumulators = c.args.accumulators.now in
    let kinds = kinds_of c.args.output.now in
    let width = c.len.result - length accumulators in
    let i = c.loop-i.i in
    let xs = numbers (length keys) in
    let kind = c.kind-kind.result in
    let here = sym (get_or_from_slice_get kinds i kind Whole c.kind-kind.ensures) in
    let column : c.if-i-width.column ≡ column_of xs (group_pick width keys accumulators kinds i) = elim c.if-i-width.branch [
      | then-i-width+in_ok-column w ↦ w.column-is ∙ w.in_ok-column.ensures ∙ of_key width keys accumulators kinds i kind here xs w.if-i-width.true
      | else-i-width+in_ok-column-2 w ↦
          let a = w.index-accumulators-i.result in
          let low : i - width < length accumulators = omega (arith, c.requires.width, w.if-i-width.false, c.len.ensures.len, c.len-i-end.ensures.len) in
          let at = w.index-accumulators-i.is ∙ get_or_default accumulators (i - width) a none low in
          let count = ap (λ (x : Accumulated). length x.states) w.index-accumulators-i.is ∙ c.requires.beside (i - width) a low in
          w.column-is ∙ w.in_ok-column-2.ensures ∙ ap (λ n. column_of (numbers n) (value_pick kind a)) count
          ∙ of_value width keys accumulators kinds i kind here xs a at w.if-i-width.false
    ] in
    c.in_ok-push.ensures.items ∙ picks-more width keys accumulators kinds i xs c.loop-i.columns.items c.if-i-width.column c.loop-i.invariant column
