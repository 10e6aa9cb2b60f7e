use Rattle.fq_column.specs.Frame.{names_of}
use Rattle.fq_csv.specs.Writing.{held}
use Rattle.fq_csv.proofs.PrintLemmas.{HasPut}
use Rattle.fq_csv.proofs.printing.put_names.Given as goal

abbrev pub invariant-loop-i : goal.invariant-loop-i
invariant-loop-i l = HasPut held l.fn.writer l.writer (names_of l.schema) l.i
