-- Rows of which only marked columns are kept (Polars, "projection pushdown"): null, which stands in a column of any kind, takes the place
-- of the other cells. A column past the marks is kept.
use Rattle.std.specs.Prelude.{Bool, List, [], ◌∷◌, map, if◌then◌else◌}
use Rattle.fq_column.specs.declared.cells.Cell.{Cell}
use Rattle.fq_column.specs.declared.cells.Cell.TheVariants.{Null}
use Rattle.fq_column.specs.Frame.{Row}
use Rattle.fq_column.specs.Stream.{Stream}

-- the cell, or null if its column is not kept
abbrev pub masked_cell : Bool → Cell → Cell
masked_cell mark c = if mark then c else Null

abbrev pub masked : List Bool → Row → Row
masked [] row = row
masked (mark ∷ marks) [] = []
masked (mark ∷ marks) (c ∷ row) = masked_cell mark c ∷ masked marks row

-- the stream of such rows, with the same end
abbrev pub masked_stream : {F : Type 0} → List Bool → Stream F → Stream F
masked_stream marks u = record { rows = map (masked marks) u.rows; fault = u.fault }
