use Rattle.std.proofs.Common.{◌≡◌, ◌<◌, ℕ, length}
use Rattle.std.specs.Prelude.{slice_index_or}
use Rattle.fq_column.specs.Frame.{kinds_of}
use Rattle.fq_csv.specs.Readings.{reading_at}
use Rattle.fq_csv.specs.declared.cells.readings.Reading.{Reading}
use Rattle.fq_csv.proofs.cells.layouts.Layout.readings.Given as goal

abbrev pub invariant-loop-column : goal.invariant-loop-column
invariant-loop-column l =
    (length l.readings.items ≡ l.column) × ((i : ℕ) → i < length l.readings.items → (other : Reading) → slice_index_or l.readings.items i other ≡ reading_at (kinds_of l.self.schema) l.self i)
