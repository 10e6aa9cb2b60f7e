use Rattle.std.proofs.Common.{sym, ap, ◌∙◌}
use Rattle.fq_column.specs.Frame.{Frame}
use Rattle.fq_column.specs.Stream.{done}
use Rattle.fq_expr.specs.Front.{fault_at}
use Rattle.region_totals.specs.Report.{group_keys, group_outputs}
use Rattle.region_totals.specs.Totals.{stepped}
use Rattle.region_totals.proofs.TotalsLemmas.{totals-more}
use Rattle.region_totals.proofs.add_batch.Goals as goal

pub returns-clause-taken : goal.returns-clause-taken
returns-clause-taken c rows h =
    let front = c.args.front.now in
    let whole = c.in_ok-batch.ensures.rows in
    totals-more front c.args.grouper.now c.take.new.self rows c.args.batch.rows c.in_ok-batch.batch.rows
    (c.steps_of_joined_streams.ensures fault_at front.first front.fields front.steps (done rows) (done c.args.batch.rows))
    (ap (λ (f : Frame). f.rows) whole.1 ∙ c.in_ok-apply.ensures.rows)
    (sym c.in_ok-apply.ensures.fault ∙ whole.0)
    (c.in_ok-take.ensures.taken group_keys group_outputs (stepped front rows).rows)
    h
