-- What an operation makes of a row.
use Rattle.std.specs.Prelude.{Option, Some, None}
use Rattle.fq_column.specs.declared.cells.Cell.{Cell}
use Rattle.fq_column.specs.declared.cells.Cell.TheVariants as cell
use Rattle.fq_expr.specs.declared.operations.Computed.{Computed}
use Rattle.fq_expr.specs.declared.operations.Computed.TheVariants.{Value, Null, Fault}

-- its cell, or a fault
abbrev pub computed_cell : {T : Type 0} → (T → Cell) → Computed T → Option Cell
computed_cell make (Value x) = Some (make x)
computed_cell make Null = Some cell.Null
computed_cell make Fault = None
