use Rattle.std.proofs.Common.{ap, List}
use Rattle.fq_column.specs.declared.cells.Cell.{Cell}
use Rattle.fq_column.specs.declared.cells.Kind.{Kind}
use Rattle.fq_column.specs.declared.cells.Kind.TheVariants as kind
use Rattle.fq_column.specs.declared.cells.Cell.TheVariants as cell
use Rattle.fq_column.specs.Column.{Cells, nullable}
use Rattle.fq_column.proofs.ListLemmas.{keep-map}
use Rattle.fq_column.proofs.columns.Column.keep.Goals.{in-Whole, in-Text, in-Truth}
use Rattle.fq_column.proofs.columns.Column.keep.Goals as goal

cells_as : Kind → List Cell → Cells
cells_as k cells = record { kind = k; cells = cells }

pub returns : goal.returns
unfolding cells_as
returns c = elim c.match-self.branch [
  | in-Whole w ↦ rw (← c.self.view_is, w.in-Whole.is, w.self-inside-is, w.keep.ensures) (ap (cells_as kind.Whole) (keep-map (nullable cell.Whole) c.args.mask.now w.in-Whole.array))
  | in-Text w ↦ rw (← c.self.view_is, w.in-Text.is, w.self-inside-is, w.keep-in-Text.ensures) (ap (cells_as kind.Text) (keep-map (nullable cell.Text) c.args.mask.now w.in-Text.array))
  | in-Truth w ↦ rw (← c.self.view_is, w.in-Truth.is, w.self-inside-is, w.keep-in-Truth.ensures) (ap (cells_as kind.Truth) (keep-map (nullable cell.Truth) c.args.mask.now w.in-Truth.array))
]
