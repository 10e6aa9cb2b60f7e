use Rattle.std.proofs.Common.{get_or, arith}
use Rattle.fq_ops.proofs.KeyLemmas.{cell-read, key-more}
use Rattle.fq_ops.proofs.keys.read_cells.Goals as goal

pub loop-i-preserved : goal.loop-i-preserved
loop-i-preserved c =
    let rows = c.args.batch.now.rows in
    let p = get_or c.args.places.now c.loop-i.i 0 in
    key-more c.loop-i.cells c.args.places.now c.loop-i.i c.read_cell.new.cell (get_or rows c.args.row _) (omega arith) (omega (arith, c.requires.size)) c.loop-i.invariant
    (cell-read rows c.args.row p c.column.result.now.cells c.read_cell.new.cell c.column.ensures.cells c.in_ok-read_cell.ensures)
