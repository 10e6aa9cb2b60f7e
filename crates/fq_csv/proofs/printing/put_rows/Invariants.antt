use Rattle.std.proofs.Common.{take}
use Rattle.std.specs.Io.KnownBytes.{Appends}
use Rattle.csv.specs.Writing.{text_written}
use Rattle.fq_csv.specs.Writing.{held}
use Rattle.fq_csv.specs.Writing.{IsBetween}
use Rattle.fq_csv.specs.Printed.{printed_rows_in}
use Rattle.fq_csv.proofs.printing.put_rows.Given as goal

abbrev pub invariant-loop-row : goal.invariant-loop-row
invariant-loop-row l = record {
  between : IsBetween l.writer;
  text : Appends (text_written held l.fn.writer) (text_written held l.writer) (printed_rows_in l.notations (take l.row l.batch.rows));
}
