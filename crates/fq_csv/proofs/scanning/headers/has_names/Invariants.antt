use Rattle.csv.specs.Records.{fields_of}
use Rattle.fq_column.specs.Frame.{names_of}
use Rattle.fq_csv.proofs.HeaderLemmas.{SameBelow}
use Rattle.fq_csv.proofs.scanning.headers.has_names.Given as goal

abbrev pub invariant-loop-i : goal.invariant-loop-i
invariant-loop-i l = SameBelow (names_of l.schema) (fields_of l.row) l.i
