use Rattle.std.proofs.Common.{◌<◌, [], length, unwrap_or, ap, sym, ◌∙◌, arith}
use Rattle.std.proofs.lemmas.List.{get_or_default}
use Rattle.std.proofs.lemmas.Option.{unwrap_or-slice_get}
use Rattle.fq_column.specs.declared.cells.Cell.TheVariants.{Null}
use Rattle.fq_ops.proofs.FinishLemmas.{key-more}
use Rattle.fq_ops.proofs.key_sets.key_column.Goals as goal
use Rattle.fq_ops.proofs.key_sets.key_column.Goals.{in-Some+in_ok-push_cell-in-Some, in-None+in_ok-push_null-in-None}

pub loop-i-preserved : goal.loop-i-preserved
loop-i-preserved c =
    let keys = c.args.keys.now in
    let i = c.loop-i.i in
    let place = c.args.place in
    let key = c.index-keys-i.result in
    let low : i < length keys = omega arith in
    let at = c.index-keys-i.is ∙ get_or_default keys i key [] low in
    elim c.match-cell.branch [
      | in-Some+in_ok-push_cell-in-Some w ↦
          let value = sym (sym (unwrap_or-slice_get key place Null) ∙ ap (λ o. unwrap_or o Null) (sym w.in-Some.ensures)) in
          w.column-is ∙ key-more c.args.kind keys place i c.loop-i.column w.push_cell.new.column key w.in-Some.cell.now c.loop-i.invariant at value w.in_ok-push_cell-in-Some.ensures
      | in-None+in_ok-push_null-in-None w ↦
          let value = sym (sym (unwrap_or-slice_get key place Null) ∙ ap (λ o. unwrap_or o Null) (sym w.in-None.ensures)) in
          w.column-is ∙ key-more c.args.kind keys place i c.loop-i.column w.push_null.new.self key Null c.loop-i.invariant at value w.in_ok-push_null-in-None.ensures.ok
    ]
