use Rattle.std.proofs.Common.{◌≡◌, List, Some}
use Rattle.fq_column.specs.Frame.{Row}
use Rattle.fq_column.specs.Stream.{Stream, done, then_stream}
use Rattle.fq_csv.specs.declared.faults.ScanFault.{ScanFault}
use Rattle.region_totals.specs.Totals.{HasTotals}
use Rattle.region_totals.proofs.grouped.Given as goal

abbrev pub invariant-batches : goal.invariant-batches
invariant-batches g l = record {
  layout : l.scanner.layout ≡ l.fn.scanner.layout;
  fields : l.grouper.fields ≡ l.fn.grouper.fields;
  stream : (u : Stream ScanFault) → l.fn.scanner.upcoming ≡ Some u →
      (rows : List Row) × (rest : Stream ScanFault) × (l.scanner.upcoming ≡ Some rest) × (u ≡ then_stream (done rows) rest) × HasTotals l.front l.grouper rows;
}

abbrev pub decreases-batches : goal.decreases-batches
decreases-batches g l = l.scanner.room
