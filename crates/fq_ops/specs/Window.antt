-- The window of a rolling sum, with the sum and the number of its values beside it.
use Rattle.std.specs.Prelude.{◌≡◌, ℕ, ◌≤◌, List, [], ◌∷◌, ◌++◌, length, filter_map, nat_le, ℤ, Option, Some, if◌then◌else◌}
use Rattle.circular_buffer.specs.Buffer.{keep_last}
use Rattle.fq_column.specs.declared.cells.Cell.{Cell}
use Rattle.fq_column.specs.declared.cells.Cell.TheVariants.{Null}
use Rattle.fq_column.specs.Cell.{fitted}
use Rattle.fq_ops.specs.Aggregate.{wholes, int_sum}
use Rattle.fq_ops.specs.Sums.{AllFit}
use Rattle.fq_ops.specs.declared.rolls.TheConstants.{MAX_WINDOW}

-- the values that are there
abbrev pub present : {X : Type 0} → List (Option X) → List X
present places = filter_map (λ p. p) places

-- the places of a window, with the sum and the number of their values
pub record IsRunning (places : List (Option ℤ)) (window : ℕ) (sum : ℤ) (count : ℕ) : Type 0 where
  pub sum_is : sum ≡ int_sum (present places)
  pub count_is : count ≡ length (present places)
  pub all_fit : AllFit (present places)
  pub within : length places ≤ window
  pub some : 1 ≤ window
  pub few : window ≤ MAX_WINDOW

-- the sum of a window's cells if at least m values stand in it, else null; or none if a given sum does not fit 64 bits
abbrev pub sum_of_window : ℕ → List Cell → Option Cell
sum_of_window m cells = if nat_le m (length (wholes cells)) then fitted (int_sum (wholes cells)) else Some Null

-- the sums of a window that moves on along cells
abbrev pub sums_along : ℕ → ℕ → List Cell → List Cell → List (Option Cell)
sums_along n m last [] = []
sums_along n m last (c ∷ cells) = sum_of_window m (keep_last n (last ++ c ∷ [])) ∷ sums_along n m (keep_last n (last ++ c ∷ [])) cells
