use Rattle.std.proofs.Common.{true, false, ap, sym, ◌∙◌}
use Rattle.fq_column.specs.Frame.{has_name}
use Rattle.fq_expr.specs.Expression.{with_columns}
use Rattle.fq_expr.specs.ExpressionData.{items_of}
use Rattle.fq_expr.specs.Kinds.{item_names}
use Rattle.fq_expr.specs.Needed.{needed_before}
use Rattle.fq_expr.proofs.NeedLemmas.{read-by, with_columns-need}
use Rattle.fq_expr.proofs.steps.RowStep.needs.Goals as goal

pub returns-then-some_reads : goal.returns-then-some_reads
returns-then-some_reads c needed e =
    let n = c.args.name.now in
    let items = c.as_slice-items.result.now in
    rw c.in-WithColumns.is (c.if-some_reads.true
    ∙ with_columns-need n items needed true c.args.after (has_name (item_names (items_of items)) n) (sym c.if-some_reads.true ∙ c.some_reads.ensures) e (λ i. has_name (item_names (items_of items)) n)
    ∙ ap (λ xs. has_name (needed_before (with_columns (items_of xs)) needed) n) c.as_slice-items.ensures.value)

pub returns-then-after : goal.returns-then-after
returns-then-after c needed e =
    let n = c.args.name.now in
    let items = c.as_slice-items.result.now in
    rw c.in-WithColumns.is (with_columns-need n items needed false true c.has_name.result (sym c.if-some_reads.false ∙ c.some_reads.ensures) (e ∙ c.if-after.true) c.has_name.ensures
    ∙ ap (λ xs. has_name (needed_before (with_columns (items_of xs)) needed) n) c.as_slice-items.ensures.value)

pub returns-else-after : goal.returns-else-after
returns-else-after c needed e =
    let n = c.args.name.now in
    let items = c.as_slice-items.result.now in
    rw c.in-WithColumns.is (c.if-after.false
    ∙ with_columns-need n items needed false false (has_name (item_names (items_of items)) n) (sym c.if-some_reads.false ∙ c.some_reads.ensures) (e ∙ c.if-after.false) (λ i. has_name (item_names (items_of items)) n)
    ∙ ap (λ xs. has_name (needed_before (with_columns (items_of xs)) needed) n) c.as_slice-items.ensures.value)

pub returns-in-Select : goal.returns-in-Select
returns-in-Select c needed e =
    let n = c.args.name.now in
    rw c.in-Select.is (c.some_reads-in-Select.ensures ∙ rw c.as_slice.ensures.value (read-by n c.in-Select.items.items))
