use Rattle.fq_csv.specs.Cutting.{IsBlank, between}
use Rattle.fq_csv.proofs.cutting.record_start.Given as goal

abbrev pub invariant-loop-i : goal.invariant-loop-i
invariant-loop-i l = IsBlank (between l.text l.from l.i)
