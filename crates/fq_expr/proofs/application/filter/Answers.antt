use Rattle.std.proofs.Common.{◌≤◌, ◌∙◌, ap, sym, arith, map, length, take, nat_lt}
use Rattle.std.specs.Bool.{then_some}
use Rattle.std.proofs.lemmas.List.{length-map, length-take-le}
use Rattle.fq_column.specs.Frame.{Frame}
use Rattle.fq_column.specs.Lists.{before_missing, keep}
use Rattle.fq_expr.specs.ExpressionData.{expression_of}
use Rattle.fq_expr.specs.Steps.{is_true}
use Rattle.fq_expr.specs.Value.{value_of}
use Rattle.fq_expr.proofs.FilterLemmas.{filter-rows, filter-item}
use Rattle.fq_expr.proofs.PrefixLemmas.{length-before_missing}
use Rattle.fq_expr.proofs.application.filter.Goals as goal
use Rattle.fq_expr.proofs.application.filter.Goals.{In_ok-mask}

-- the mask is no longer than the rows
mask-le : (c : In_ok-mask) → length c.in_ok-mask.mask.items ≤ length c.args.batch.rows
mask-le c = let e = expression_of c.args.predicate.now in
    omega (
      arith,
      ap length c.in_ok-mask.ensures,
      length-map (before_missing (map (value_of c.args.batch.fields e) c.args.batch.rows)) is_true,
      length-before_missing (map (value_of c.args.batch.fields e) c.args.batch.rows),
      length-map c.args.batch.rows (value_of c.args.batch.fields e),
    )

pub keep_marked-requires : goal.keep_marked-requires
keep_marked-requires c =
    ap length c.as_slice.ensures.value
    ∙ sym (ap (λ (f : Frame). length f.rows) c.cut.ensures ∙ ap (λ n. length (take n c.args.batch.rows)) (c.len-2.ensures ∙ c.in_ok-mask.mask.ok.0) ∙ length-take-le (length c.in_ok-mask.mask.items) c.args.batch.rows (mask-le (goal.at.keep_marked-requires c).In_ok-mask))

pub returns-clause-rows : goal.returns-clause-rows
returns-clause-rows c = let e = expression_of c.args.predicate.now in
    ap (λ (f : Frame). f.rows) c.keep_marked.ensures
    ∙ ap (λ (f : Frame). keep c.as_slice.result.now f.rows) c.cut.ensures
    ∙ ap (λ m. keep m (take c.len-2.result c.args.batch.rows)) c.as_slice.ensures.value
    ∙ ap (λ n. keep c.in_ok-mask.mask.items (take n c.args.batch.rows)) (c.len-2.ensures ∙ c.in_ok-mask.mask.ok.0)
    ∙ ap (λ m. keep m (take (length m) c.args.batch.rows)) c.in_ok-mask.ensures
    ∙ filter-rows c.args.batch.fields e c.args.batch.rows

pub returns-clause-fault : goal.returns-clause-fault
returns-clause-fault c = let e = expression_of c.args.predicate.now in
    c.then_some-item.ensures
    ∙ (λ i. then_some (nat_lt ((c.len.ensures ∙ c.in_ok-mask.mask.ok.0 ∙ ap length c.in_ok-mask.ensures) i) (c.rows.ensures.rows i)) 0)
    ∙ filter-item c.args.batch.fields e c.args.batch.rows
