-- What a rolling sum has taken and no longer holds.
use Rattle.std.specs.Prelude.{◌≡◌, ℕ, Bool, false, List, is_some}
use Rattle.circular_buffer.specs.Buffer.{keep_last}
use Rattle.fq_column.specs.declared.cells.Cell.{Cell}
use Rattle.fq_column.specs.Lists.{first_missing}
use Rattle.fq_ops.specs.Roll.{rolled}

-- what contracts see of a rolling sum
pub record Window : Type 0 where
  pub window : ℕ
  pub min_samples : ℕ
  pub last : List Cell
  pub faulted : Bool

-- the rolling sum has taken these cells
pub record HasTakenCells (r : Window) (cells : List Cell) : Type 0 where
  pub last : r.faulted ≡ false → r.last ≡ keep_last r.window cells
  pub faulted : r.faulted ≡ is_some (first_missing (rolled r.window r.min_samples cells))
