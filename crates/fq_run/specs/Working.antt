-- What the workers make of the items of files.
use Rattle.std.specs.Prelude.{ℕ, nat_lt, Option, Some, None, option_map, if◌then◌else◌}
use Rattle.fq_column.specs.Frame.{Frame}
use Rattle.fq_column.specs.Schema.{same_fields}
use Rattle.fq_column.specs.Stream.{Stream, done, faulted, then_stream}
use Rattle.fq_csv.specs.File.{rows_after}
use Rattle.fq_csv.specs.HandedOut.{framed}
use Rattle.fq_csv.specs.Taking.{FieldRun}
use Rattle.fq_csv.specs.declared.faults.ScanFault.{ScanFault}
use Rattle.fq_expr.specs.Front.{NumberedSteps, fault_at}
use Rattle.fq_expr.specs.Steps.{apply_steps, fields_after_all}
use Rattle.fq_expr.specs.declared.fronts.RowFault.{RowFault}
use Rattle.fq_column.specs.declared.pieces.Piece.{Piece}
use Rattle.fq_csv.specs.Sources.{row_limit}
use Rattle.fq_run.specs.Sources.{row_fault, scan_fault}
use Rattle.fq_run.specs.declared.faults.Fault.{Fault}
use Rattle.fq_run.specs.declared.file_feeds.FileItem.{FileItem}
use Rattle.fq_run.specs.declared.file_feeds.FileItem.TheVariants as scanned
use Rattle.fq_run.specs.declared.leading_steps.Worked.{Worked}
use Rattle.fq_run.specs.declared.leading_steps.Worked.TheVariants as worked

-- the rows that a run's records are, up to the first that is not a row
abbrev pub rows_of_run : FieldRun → Stream ScanFault
rows_of_run run = rows_after run.file run.layout row_limit run.before run.records

-- a batch as it is
abbrev pub untouched : Frame → Piece RowFault
untouched batch = record { batch = batch; fault = None }

-- the leading steps on a batch of their columns
abbrev pub stepped : NumberedSteps → Frame → Piece RowFault
stepped front batch = let u = apply_steps fault_at front.first front.fields front.steps (done batch.rows) in
    record { batch = record { fields = fields_after_all front.fields front.steps; rows = u.rows }; fault = u.fault }

-- a batch of a file after the leading steps; those of files below `side_files`, and those of other columns, are left as they are
abbrev pub piece_of : NumberedSteps → ℕ → ℕ → Frame → Piece RowFault
piece_of front side_files file batch = if nat_lt file side_files then untouched batch else (if same_fields batch.fields front.fields then stepped front batch else untouched batch)

-- a piece, and the fault of the file after its rows, if there is one
abbrev pub piece_until : Option ScanFault → Piece RowFault → Worked
piece_until None p = worked.Piece p
piece_until (Some fault) p = worked.Cut p fault

-- the work on an item: a run's rows, and the leading steps on them
abbrev pub work_on : NumberedSteps → ℕ → ℕ → FileItem → Worked
work_on front side_files file (scanned.Ended fault) = worked.Ended fault
work_on front side_files file (scanned.Run run) = piece_until (rows_of_run run).fault (piece_of front side_files file (framed run.layout.schema (rows_of_run run).rows))

-- the stream that a worked item is
abbrev pub piece_stream : Piece RowFault → Stream Fault
piece_stream p = record { rows = p.batch.rows; fault = option_map row_fault p.fault }

abbrev pub worked_stream : Worked → Stream Fault
worked_stream (worked.Piece p) = piece_stream p
worked_stream (worked.Cut p fault) = then_stream (piece_stream p) (faulted (scan_fault fault))
worked_stream (worked.Ended fault) = faulted (scan_fault fault)
