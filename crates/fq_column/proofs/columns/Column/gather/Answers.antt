use Rattle.std.proofs.Common.{List, ap}
use Rattle.fq_column.specs.declared.cells.Cell.{Cell}
use Rattle.fq_column.specs.declared.cells.Cell.TheVariants as cell
use Rattle.fq_column.specs.declared.cells.Kind.{Kind}
use Rattle.fq_column.specs.declared.cells.Kind.TheVariants as kind
use Rattle.fq_column.specs.Column.{Cells}
use Rattle.fq_column.proofs.ColumnLemmas.{nullable-gather}
use Rattle.fq_column.proofs.columns.Column.gather.Goals as goal
use Rattle.fq_column.proofs.columns.Column.gather.Goals.{in-Whole+in_ok-gather-in-Whole, in-Text+in_ok-gather-in-Text, in-Truth+in_ok-gather-in-Truth}

cells_as : Kind → List Cell → Cells
cells_as k cells = record { kind = k; cells = cells }

pub returns : goal.returns
unfolding cells_as
returns c = elim c.match-self.branch [
  | in-Whole+in_ok-gather-in-Whole w ↦ rw (← c.self.view_is, w.in-Whole.is, w.values-is, w.in_ok-gather-in-Whole.ensures) (ap (cells_as kind.Whole) (nullable-gather cell.Whole w.in-Whole.array c.args.places.now))
  | in-Text+in_ok-gather-in-Text w ↦ rw (← c.self.view_is, w.in-Text.is, w.values-is, w.in_ok-gather-in-Text.ensures) (ap (cells_as kind.Text) (nullable-gather cell.Text w.in-Text.array c.args.places.now))
  | in-Truth+in_ok-gather-in-Truth w ↦ rw (← c.self.view_is, w.in-Truth.is, w.values-is, w.in_ok-gather-in-Truth.ensures) (ap (cells_as kind.Truth) (nullable-gather cell.Truth w.in-Truth.array c.args.places.now))
]
