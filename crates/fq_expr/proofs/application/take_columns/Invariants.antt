use Rattle.std.proofs.Common.{◌≡◌, ◌++◌, ℕ, map, length, get_or, reverse, true}
use Rattle.std.specs.List.{list_any}
use Rattle.fq_column.specs.declared.cells.Kind.TheVariants as kind
use Rattle.fq_column.specs.Batch.{without_cells}
use Rattle.fq_expr.specs.Made.{ArePlaces, column_of, is_at}
use Rattle.fq_expr.proofs.application.take_columns.Given as goal

abbrev pub invariant-loop-one : goal.invariant-loop-one
invariant-loop-one l = record {
  columns : map (column_of l.initial.from.items) l.made.items ++ reverse l.columns.items ≡ map (column_of l.initial.from.items) l.initial.made.items;
  places : ArePlaces (length l.initial.from.items) l.made.items;
  width : length l.from.items ≡ length l.initial.from.items;
  intact : (place : ℕ) → list_any (is_at place) l.made.items ≡ true → get_or l.from.items place (without_cells kind.Whole) ≡ get_or l.initial.from.items place (without_cells kind.Whole);
}

abbrev pub decreases-loop-one : goal.decreases-loop-one
decreases-loop-one l = length l.made.items
