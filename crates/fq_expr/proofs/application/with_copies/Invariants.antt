use Rattle.std.proofs.Common.{◌≡◌, ◌++◌, map}
use Rattle.std.specs.Vec.Iter.{into_iter_items}
use Rattle.fq_expr.specs.Made.{made_column}
use Rattle.fq_expr.proofs.application.with_copies.Given as goal

abbrev pub invariant-loop-one : goal.invariant-loop-one
invariant-loop-one l = record {
  columns : l.columns.items ≡ map (made_column l.batch) l.yielded;
  all : l.fn.evaluated.columns.items ≡ l.yielded ++ into_iter_items l.one-iterator;
}
