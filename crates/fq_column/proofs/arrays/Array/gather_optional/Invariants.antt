use Rattle.std.proofs.Common.{◌≡◌, None, map, take, slice_index_or}
use Rattle.std.specs.Option.{option_and_then}
use Rattle.fq_column.proofs.arrays.Array.gather_optional.Given as goal

abbrev pub invariant-loop-place : goal.invariant-loop-place
invariant-loop-place g l = l.gathered ≡ map (λ p. option_and_then (λ i. slice_index_or l.self i None) p) (take l.place-index l.places)
