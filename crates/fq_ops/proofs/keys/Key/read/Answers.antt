use Rattle.std.proofs.Common.{arith, length, refl}
use Rattle.fq_column.proofs.BatchLemmas.{written}
use Rattle.fq_ops.proofs.keys.Key.read.Goals as goal

pub returns-clause-read : goal.returns-clause-read
returns-clause-read c =
    let items = c.self.inside.cells.items in
    rw (written (length items) c.read_cells.new.cells items (grind arith) refl) c.read_cells.ensures
