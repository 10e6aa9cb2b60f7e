-- The groups of what steps make of a file's rows, in the definitions of the libraries.
use Rattle.std.specs.Prelude.{◌≡◌, List, None, Ok}
use Rattle.fq_column.specs.Frame.{Frame, Row}
use Rattle.fq_column.specs.Stream.{Stream, done}
use Rattle.fq_csv.specs.declared.faults.ScanFault.{ScanFault}
use Rattle.fq_expr.specs.declared.fronts.RowFault.{RowFault}
use Rattle.fq_expr.specs.Front.{NumberedSteps, fault_at}
use Rattle.fq_expr.specs.Steps.{apply_steps, fields_after_all}
use Rattle.fq_ops.specs.Grouped.{Grouped, HasTakenRows}
use Rattle.fq_ops.specs.Group.{grouped, grouped_fields}
use Rattle.region_totals.specs.Report.{group_keys, group_outputs}

-- what steps make of rows
abbrev pub stepped : NumberedSteps → List Row → Stream RowFault
stepped front rows = apply_steps fault_at front.first front.fields front.steps (done rows)

-- no row faults, and the grouper has taken what the steps make of the rows
pub record HasTotals (front : NumberedSteps) (grouper : Grouped) (rows : List Row) : Type 0 where
  pub no_fault : (stepped front rows).fault ≡ None
  pub taken : HasTakenRows grouper group_keys group_outputs (stepped front rows).rows

-- the stream has no fault, and the frame is the groups of what the steps make of its rows, of which none faults
pub record AreTotals (front : NumberedSteps) (u : Stream ScanFault) (frame : Frame) : Type 0 where
  pub whole : u.fault ≡ None
  pub no_fault : (stepped front u.rows).fault ≡ None
  pub columns : frame.fields ≡ grouped_fields (fields_after_all front.fields front.steps) group_keys group_outputs
  pub rows : grouped (fields_after_all front.fields front.steps) group_keys group_outputs (stepped front u.rows).rows ≡ Ok frame.rows
