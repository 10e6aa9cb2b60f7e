use Rattle.std.specs.Prelude.{◌≡◌, ◌++◌, length}
use Rattle.fq_csv.proofs.cutting.pieces.Pieces.add.Given as goal

abbrev pub invariant-loop-rest : goal.invariant-loop-rest
invariant-loop-rest l = l.self ++ l.rest ≡ l.fn.self ++ l.bytes

abbrev pub decreases-loop-rest : goal.decreases-loop-rest
decreases-loop-rest l = length l.rest
