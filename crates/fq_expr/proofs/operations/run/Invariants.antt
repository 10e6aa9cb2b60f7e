use Rattle.std.proofs.Common.{◌≡◌, ◌++◌, map, drop}
use Rattle.fq_column.specs.Column.{nullable}
use Rattle.fq_column.specs.Lists.{before_missing, zip_with}
use Rattle.fq_expr.specs.Operand.{cells_in}
use Rattle.fq_expr.proofs.operations.run.Given as goal

abbrev pub invariant-loop-i : goal.invariant-loop-i
invariant-loop-i g l = before_missing (zip_with (g.O.Operation.gives l.operation) (cells_in g.A.Datum.cell l.rows l.left) (cells_in g.B.Datum.cell l.rows l.right))
    ≡ map (nullable g.C.Datum.cell) l.values
    ++ before_missing (zip_with (g.O.Operation.gives l.operation) (drop l.i (cells_in g.A.Datum.cell l.rows l.left)) (drop l.i (cells_in g.B.Datum.cell l.rows l.right)))
