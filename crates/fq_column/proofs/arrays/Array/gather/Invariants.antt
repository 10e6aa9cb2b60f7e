use Rattle.std.proofs.Common.{◌≡◌, None, map, take, slice_index_or}
use Rattle.fq_column.proofs.arrays.Array.gather.Given as goal

abbrev pub invariant-loop-place : goal.invariant-loop-place
invariant-loop-place g l = l.gathered ≡ map (λ p. slice_index_or l.self p None) (take l.place-index l.places)
