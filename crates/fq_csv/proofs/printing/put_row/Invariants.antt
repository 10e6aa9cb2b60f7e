use Rattle.std.proofs.Common.{[]}
use Rattle.std.specs.Prelude.{slice_index_or}
use Rattle.fq_csv.specs.Writing.{held}
use Rattle.fq_csv.specs.Printed.{row_fields}
use Rattle.fq_csv.proofs.PrintLemmas.{HasPut}
use Rattle.fq_csv.proofs.printing.put_row.Given as goal

abbrev pub invariant-loop-i : goal.invariant-loop-i
invariant-loop-i l = HasPut held l.fn.writer l.writer (row_fields l.notations (slice_index_or l.batch.rows l.row [])) l.i
