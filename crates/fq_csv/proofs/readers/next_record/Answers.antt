use Rattle.fq_csv.proofs.readers.next_record.Goals as goal
use Rattle.fq_csv.proofs.readers.next_record.Goals.{in-Ok, in-Err}

pub returns-clause-reads : goal.returns-clause-reads
returns-clause-reads c = elim c.match-read.branch [
  | in-Ok w ↦ rw w.result-is w.in-Ok.ensures.reads
  | in-Err w ↦ rw w.result-is tt
]
