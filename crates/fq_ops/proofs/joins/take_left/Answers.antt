use Rattle.std.proofs.Common.{◌≡◌, length, true, map, subst, ap, ◌∙◌, arith}
use Rattle.std.specs.Prelude.{IfSome}
use Rattle.fq_column.specs.Frame.{Fields, Frame}
use Rattle.fq_column.specs.Lists.{keep}
use Rattle.fq_ops.specs.Pairs.{AreMarks, left_value}
use Rattle.fq_ops.specs.Picks.{columns_of, picks_from}
use Rattle.fq_ops.proofs.MarkedRowLemmas.{moved-columns}
use Rattle.fq_ops.proofs.joins.take_left.Goals as goal

pub returns : goal.returns
returns c =
    let rows = c.args.left.rows in
    let pairs = c.args.pairs.now in
    let marks = subst (λ o. IfSome o (λ ms. AreMarks ms.items (map (λ p. p.0) pairs))) c.in-Some.is c.in_ok-marks.ensures.marks in
    let size = subst (λ o. IfSome o (λ ms. length ms.items ≡ c.rows.result)) c.in-Some.is c.in_ok-marks.ensures.rows in
    let kept = ap (λ (f : Frame). f.rows) c.into_parts-columns.ensures.rows ∙ ap (λ (f : Frame). f.rows) c.keep_rows.ensures ∙ ap (λ ms. keep ms rows) c.as_slice.ensures.value
    ∙ marks.kept rows (omega (arith, size, c.rows.ensures.rows)) in
    moved-columns c.keep_rows.new.batch.fields c.into_parts-columns.result.1.items rows pairs c.into_parts-columns.ensures.columns kept
    ∙ ap (λ (fields : Fields). columns_of (picks_from (λ _. true) (left_value rows) 0 fields) pairs) (ap (λ (f : Frame). f.fields) c.keep_rows.ensures)
