use Rattle.std.proofs.Common.{◌∙◌, arith}
use Rattle.fq_csv.proofs.RecordStepLemmas.{gives-no-run, gives-run}
use Rattle.fq_csv.proofs.scanning.steps.try_read_run.Goals as goal

pub returns-then-count-eq0-clause-step : goal.returns-then-count-eq0-clause-step
returns-then-count-eq0-clause-step g c =
    let taken = c.in_ok-text.field-0 in
    gives-no-run c.args.span c.args.layout.now c.args.records.now c.take_records.new.records taken.stage taken.text taken.count c.in_ok-text.ensures.records c.if-count-eq0.true

pub returns-clause-step : goal.returns-clause-step
returns-clause-step g c =
    let taken = c.in_ok-text.field-0 in
    let e = c.in_ok-text.ensures in
    let gives = gives-run c.args.span c.args.layout.now c.args.records.now c.take_records.new.records taken.stage taken.text taken.count e.file e.goes_on e.records (omega (arith, c.if-count-eq0.false)) in
    rw (c.file.ensures ∙ e.file, c.in_ok-copy.ensures) gives
