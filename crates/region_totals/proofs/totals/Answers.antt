use Rattle.std.proofs.Common.{ap, ◌∙◌, List, map, string_bytes}
use Rattle.fq_column.specs.Frame.{Fields}
use Rattle.fq_notation.specs.declared.notations.Notation.{Notation}
use Rattle.fq_csv.specs.Printed.{printed_in}
use Rattle.fq_csv.specs.Scan.{Scanning}
use Rattle.fq_expr.specs.Front.{NumberedSteps}
use Rattle.region_totals.specs.Report.{order_steps}
use Rattle.region_totals.proofs.TotalsLemmas.{totals-of-file}
use Rattle.region_totals.proofs.totals.Goals as goal

pub returns : goal.returns
returns g c bytes known =
    let columns = c.in_ok-columns.columns in
    let frame = c.in_ok-frame.frame in
    let steps = c.in_ok-front.ensures.steps ∙ ap (λ (f : Fields). let p : NumberedSteps = record order_steps { fields = f } in p) c.in_ok-copy.ensures in
    let nulls = c.new-nulls.ensures ∙ ap (map string_bytes) c.new.ensures.items in
    let stream = ap (λ (s : Scanning). s.upcoming) c.in_ok-scanner.ensures.scanner in
    let totals = totals-of-file c.in_ok-front.front columns c.new-nulls.result _ bytes (g.R.Read.remaining c.args.file) c.in_ok-scanner.scanner.upcoming frame
    c.in_ok-columns.ensures nulls steps stream known c.in_ok-frame.ensures in
    (frame, totals, c.in_ok-print_frame.ensures ∙ ap (λ (ns : List Notation). printed_in ns frame) c.plain.ensures)
