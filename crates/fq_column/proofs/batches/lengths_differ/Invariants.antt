use Rattle.std.proofs.Common.{◌≡◌, ℕ, ◌<◌, get_or, length}
use Rattle.fq_column.specs.Column.{Cells, AreOfKind}
use Rattle.fq_column.proofs.batches.lengths_differ.Given as goal

abbrev pub invariant-loop-column : goal.invariant-loop-column
invariant-loop-column l = (k : ℕ) (d : Cells) → k < l.column-index → (length (get_or l.columns k d).cells ≡ l.height) × AreOfKind (get_or l.columns k d)
