use Rattle.std.proofs.Common.{ℕ, List, [], true, length, sym, ap, refl, ◌∙◌, arith}
use Rattle.std.proofs.Math.Seq.{take_all}
use Rattle.fq_column.specs.declared.cells.Cell.{Cell}
use Rattle.fq_column.specs.Frame.{Fields, column_at, value_at}
use Rattle.fq_ops.specs.Pairs.{Pair, left_value}
use Rattle.fq_ops.specs.Picks.{Pick, columns_of, picks_from}
use Rattle.fq_ops.proofs.PickLemmas.{column-by, field-of_kind, gathered-more}
use Rattle.fq_ops.proofs.joins.gather_left.Goals as goal

pub loop-i-init : goal.loop-i-init
loop-i-init c = c.new-columns.ensures.items

pub loop-i-preserved : goal.loop-i-preserved
loop-i-preserved c =
    let fields = c.args.left.now.fields in
    let rows = c.args.left.now.rows in
    let pairs = c.args.pairs.now in
    let i = c.loop-i.i in
    let column = c.column.result.now in
    let found = field-of_kind fields i column.kind c.column.ensures.kind in
    let at : List Cell → ℕ → Cell = λ cs p. value_at p cs in
    let part : Pair → ℕ = λ p. p.0 in
    c.in_ok-push.ensures.items
    ∙ gathered-more (λ _. true) (left_value rows) [] fields i found.0 found.1 pairs c.loop-i.columns.items c.in_ok-gather.field-0 c.loop-i.invariant refl
    (c.in_ok-gather.ensures ∙ column-by column found.0.1 (column_at i rows) at part pairs c.left.result.now (sym found.2) c.column.ensures.cells c.left.ensures)

pub returns : goal.returns
returns c =
    let picks : Fields → List (Pick Pair) = λ fields. picks_from (λ _. true) (left_value c.args.left.now.rows) 0 fields in
    c.loop-i.invariant ∙ ap (λ fields. columns_of (picks fields) c.args.pairs.now) (take_all c.loop-i.i c.args.left.now.fields (omega (arith, c.len-i-end.ensures.len, ap length c.schema.ensures)))
