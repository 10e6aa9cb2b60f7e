use Rattle.std.proofs.Common.{◌∙◌, map, ap, sym, option_copied, arith}
use Rattle.std.proofs.lemmas.List.{map-append}
use Rattle.fq_column.specs.declared.cells.Cell.TheVariants as cell
use Rattle.fq_column.specs.Column.{nullable}
use Rattle.fq_column.specs.Lists.{before_missing, zip_with}
use Rattle.fq_expr.specs.Computed.{computed_cell}
use Rattle.fq_expr.specs.Operand.{cells_in}
use Rattle.fq_expr.proofs.OperandLemmas.{cells_in-at, length-cells_in, loop-value, loop-fault, loop-end}
use Rattle.fq_expr.proofs.operations.run.Goals.{in-Value+in_ok-push-in-Value, in-Null+in_ok-push_null-in-Null}
use Rattle.fq_expr.proofs.operations.run.Goals as goal

pub returns-in-Fault : goal.returns-in-Fault
returns-in-Fault g c =
    loop-fault (g.O.Operation.gives c.args.operation.now) (cells_in g.A.Datum.cell c.args.rows c.args.left.now) (cells_in g.B.Datum.cell c.args.rows c.args.right.now) _ c.loop-i.i
    (nullable g.A.Datum.cell (option_copied c.get.result)) (nullable g.B.Datum.cell (option_copied c.get-in-loop-i.result))
    (map (nullable g.C.Datum.cell) c.loop-i.values)
    (cells_in-at g.A.Datum.cell c.args.rows c.args.left.now c.loop-i.i (option_copied c.get.result) c.loop-i-test.true c.get.ensures)
    (cells_in-at g.B.Datum.cell c.args.rows c.args.right.now c.loop-i.i (option_copied c.get-in-loop-i.result) c.loop-i-test.true c.get-in-loop-i.ensures)
    (ap (computed_cell g.C.Datum.cell) (sym c.in-Fault.is) ∙ c.in_ok-value.ensures)
    c.loop-i.invariant

pub loop-i-preserved : goal.loop-i-preserved
loop-i-preserved g c =
    let f = g.O.Operation.gives c.args.operation.now in
    let xs = cells_in g.A.Datum.cell c.args.rows c.args.left.now in
    let ys = cells_in g.B.Datum.cell c.args.rows c.args.right.now in
    let made = map (nullable g.C.Datum.cell) c.loop-i.values in
    let at_left = cells_in-at g.A.Datum.cell c.args.rows c.args.left.now c.loop-i.i (option_copied c.get.result) c.loop-i-test.true c.get.ensures in
    let at_right = cells_in-at g.B.Datum.cell c.args.rows c.args.right.now c.loop-i.i (option_copied c.get-in-loop-i.result) c.loop-i-test.true c.get-in-loop-i.ensures in
    elim c.match-branch-3.branch [
      | in-Value+in_ok-push-in-Value w ↦ rw (w.values-is, w.in_ok-push-in-Value.ensures.ok, map-append)
          (loop-value f xs ys (before_missing (zip_with f xs ys)) c.loop-i.i _ _ made (g.C.Datum.cell w.in-Value.value) at_left at_right (ap (computed_cell g.C.Datum.cell) (sym w.in-Value.is) ∙ c.in_ok-value.ensures) c.loop-i.invariant)
      | in-Null+in_ok-push_null-in-Null w ↦ rw (w.values-is, w.in_ok-push_null-in-Null.ensures.ok, map-append)
          (loop-value f xs ys (before_missing (zip_with f xs ys)) c.loop-i.i _ _ made cell.Null at_left at_right (ap (computed_cell g.C.Datum.cell) (sym w.in-Null.is) ∙ c.in_ok-value.ensures) c.loop-i.invariant)
    ]

pub returns : goal.returns
returns g c =
    loop-end (g.O.Operation.gives c.args.operation.now) (cells_in g.A.Datum.cell c.args.rows c.args.left.now) (cells_in g.B.Datum.cell c.args.rows c.args.right.now) _
    (map (nullable g.C.Datum.cell) c.loop-i.values) c.loop-i.i (omega (arith, length-cells_in g.A.Datum.cell c.args.rows c.args.left.now c.requires.left, c.loop-i-test.false)) c.loop-i.invariant
