-- What comparisons and `fill_null` give.
use Rattle.std.specs.Prelude.{Bool, not, Option, Some, if◌then◌else◌}
use Rattle.std.specs.declared.cmp.Ordering.{Ordering}
use Rattle.std.specs.declared.cmp.Ordering.TheVariants.{Less, Equal, Greater}
use Rattle.fq_column.specs.declared.cells.Cell.{Cell}
use Rattle.fq_column.specs.declared.cells.Cell.TheVariants.{Truth}
use Rattle.fq_column.specs.Cell.{same_cell, is_null}
use Rattle.fq_expr.specs.declared.comparison.Comparison.{Comparison}

-- the answer of a comparison for an order of its values
abbrev pub answer_for : Comparison → Ordering → Bool
answer_for test Less = test.less
answer_for test Equal = test.equal
answer_for test Greater = test.greater

-- whether two values are the same, or whether they differ, null included
abbrev pub sameness_of : Bool → Cell → Cell → Option Cell
sameness_of answer a b = Some (Truth (if answer then same_cell a b else not (same_cell a b)))

-- the left value, or the right one if the left is null
abbrev pub filled : Cell → Cell → Option Cell
filled a b = Some (if is_null a then b else a)
