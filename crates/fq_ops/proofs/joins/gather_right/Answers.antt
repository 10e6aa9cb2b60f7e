use Rattle.std.proofs.Common.{◌≡◌, ◌++◌, ℕ, List, Option, Some, not, map, length, string_bytes, sym, ap, refl, ◌∙◌, append-nil, arith}
use Rattle.std.specs.Prelude.{slice_get}
use Rattle.std.specs.Option.{option_map_or}
use Rattle.std.proofs.Math.Seq.{take_all}
use Rattle.fq_column.specs.declared.cells.Cell.{Cell}
use Rattle.fq_column.specs.declared.cells.Cell.TheVariants.{Null}
use Rattle.fq_column.specs.Frame.{Fields, Name, column_at, has_name, names_of, value_at}
use Rattle.fq_ops.specs.Pairs.{Pair, right_value}
use Rattle.fq_ops.specs.Picks.{columns_of, picks_from}
use Rattle.fq_ops.proofs.JudgedFieldLemmas.{field-at}
use Rattle.fq_ops.proofs.PickLemmas.{column-by, field-of_name, gathered-more, gathered-same}
use Rattle.fq_ops.proofs.joins.gather_right.Goals as goal
use Rattle.fq_ops.proofs.joins.gather_right.Goals.{then-not-contains+in_ok-gather_optional+in_ok-push, else-not-contains}

pub loop-i-init : goal.loop-i-init
loop-i-init c = λ picks e. e ∙ ap (λ ps. columns_of ps c.args.pairs.now) (sym (append-nil picks))

pub loop-i-preserved : goal.loop-i-preserved
loop-i-preserved c = λ picks e.
    let fields = c.args.right.now.fields in
    let rows = c.args.right.now.rows in
    let pairs = c.args.pairs.now in
    let on = map string_bytes c.args.on.now in
    let i = c.loop-i.i in
    let name = c.name.result.now in
    let named : slice_get (names_of fields) i ≡ Some name = ap (λ fs. slice_get (names_of fs) i) (sym c.schema-in-loop-i.ensures) ∙ c.name.ensures in
    let other : Name → _ = λ n. not (has_name on n) in
    elim c.if-not-contains.branch [
      | then-not-contains+in_ok-gather_optional+in_ok-push w ↦
          let column = w.column.result.now in
          let at : List Cell → Option ℕ → Cell = λ cs p. option_map_or (λ i. value_at i cs) p Null in
          let part : Pair → Option ℕ = λ p. p.1 in
          let field = field-at fields i name column.kind named w.column.ensures.kind in
          ap (λ v. v.items) w.columns-is ∙ w.in_ok-push.ensures.items
          ∙ gathered-more other (right_value rows) picks fields i (name, column.kind) field pairs c.loop-i.columns.items w.in_ok-gather_optional.field-0 (c.loop-i.invariant picks e)
          (ap not (sym w.if-not-contains.ensures))
          (w.in_ok-gather_optional.ensures ∙ column-by column column.kind (column_at i rows) at part pairs w.right.result.now refl w.column.ensures.cells w.right.ensures)
      | else-not-contains w ↦
          let found = field-of_name fields i name named in
          ap (λ v. v.items) w.columns-is
          ∙ gathered-same other (right_value rows) picks fields i found.0 found.1 pairs c.loop-i.columns.items (c.loop-i.invariant picks e)
          (ap other found.2 ∙ ap not (sym w.if-not-contains.ensures))
    ]

pub returns : goal.returns
returns c = λ picks e.
    let other : Name → _ = λ n. not (has_name (map string_bytes c.args.on.now) n) in
    c.loop-i.invariant picks e
    ∙ ap (λ (fields : Fields). columns_of (picks ++ picks_from other (right_value c.args.right.now.rows) 0 fields) c.args.pairs.now) (take_all c.loop-i.i c.args.right.now.fields (omega (arith, c.len-i-end.ensures.len, ap length c.schema.ensures)))
