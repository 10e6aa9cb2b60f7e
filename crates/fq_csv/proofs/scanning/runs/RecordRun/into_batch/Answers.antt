use Rattle.std.proofs.Common.{List, arith, subst}
use Rattle.csv.specs.Reading.{default_config, records}
use Rattle.fq_column.specs.Frame.{kinds_of}
use Rattle.fq_csv.specs.File.{Record}
use Rattle.fq_csv.specs.Taking.{FieldRun, ReadsRun}
use Rattle.fq_csv.proofs.CellLemmas.{place-in, reads-run}
use Rattle.fq_csv.proofs.HeldRowLemmas.{one-length}
use Rattle.fq_csv.specs.declared.scanning.scanners.TheConstants.{MAX_ROWS}
use Rattle.fq_csv.proofs.scanning.runs.RecordRun.into_batch.Goals as goal

pub new-batch-requires-clause-kinds : goal.new-batch-requires-clause-kinds
new-batch-requires-clause-kinds c = c.in_ok-columns.ensures.rows.held.same_kinds

pub new-batch-requires-clause-lengths : goal.new-batch-requires-clause-lengths
new-batch-requires-clause-lengths c =
    let held = c.in_ok-columns.ensures.rows in
    one-length (kinds_of c.self.inside.layout.schema) c.in_ok-columns.columns.items held.rows c.in_ok-columns.ensures.some held.held

pub fault_of-requires : goal.fault_of-requires
fault_of-requires c = place-in c.self.inside.before MAX_ROWS c.in_ok-columns.bad c.in_ok-columns.ensures.rows (omega (arith, c.self.invariant.0, c.self.invariant.1))

pub returns : goal.returns
returns c =
    let inside = c.self.inside in
    let rs : List Record = records default_config inside.text in
    let run : FieldRun = record { file = inside.file; layout = inside.layout; before = inside.before; records = rs } in
    subst (λ (r : FieldRun). ReadsRun r c.new-batch.result c.fault_of.result) c.self.view_is
    (reads-run run c.in_ok-columns.columns.items c.in_ok-columns.bad c.new-batch.result c.fault_of.result c.in_ok-columns.ensures.rows c.in_ok-columns.ensures.some c.new-batch.ensures c.fault_of.ensures.fault c.fault_of.ensures.cause
    (omega (arith, c.self.invariant.0, c.self.invariant.1)))
