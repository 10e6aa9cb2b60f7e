use Rattle.csv.specs.Records.{fields_of}
use Rattle.fq_csv.proofs.HeaderLemmas.{SameBelow}
use Rattle.fq_review.specs.Checked.{names_in}
use Rattle.fq_review.proofs.headers.has_names.Given as goal

abbrev pub invariant-loop-place : goal.invariant-loop-place
invariant-loop-place g l = SameBelow (names_in l.columns) (fields_of l.header) l.place
