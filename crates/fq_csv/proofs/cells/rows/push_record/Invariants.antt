use Rattle.csv.specs.Records.{fields_of}
use Rattle.fq_csv.proofs.HeldRowLemmas.{Added}
use Rattle.fq_csv.proofs.cells.rows.push_record.Given as goal

abbrev pub invariant-loop-i : goal.invariant-loop-i
invariant-loop-i g l = Added l.layout l.fn.columns (fields_of l.row) l.i l.columns
