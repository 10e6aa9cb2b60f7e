-- Numbers of 64 bits, and how far a sum of so many can be from 0.
use Rattle.std.specs.Prelude.{◌≡◌, ℕ, ◌*◌, ◌^◌, true, List, [], ◌∷◌, ℤ, pos, ◌+ℤ◌, ◌≤ℤ◌}
use Rattle.fq_column.specs.Cell.{fits}

abbrev pub AllFit : List ℤ → Type 0
AllFit [] = Unit {0}
AllFit (n ∷ ns) = (fits n ≡ true) × AllFit ns

pub record IsWithin (n : ℕ) (total : ℤ) : Type 0 where
  pub low : pos 0 ≤ℤ (total +ℤ pos (n * 2 ^ 63))
  pub high : total ≤ℤ pos (n * 2 ^ 63)
