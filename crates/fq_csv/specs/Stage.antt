-- The end of a file's rows, as far as it is known.
use Rattle.std.specs.Prelude.{ℕ, [], drop, Option, Some, None}
use Rattle.fq_column.specs.Stream.{Stream}
use Rattle.fq_csv.specs.declared.faults.ScanFault.{ScanFault}
use Rattle.fq_csv.specs.declared.scanning.stages.Stage.{Stage}
use Rattle.fq_csv.specs.declared.scanning.stages.Stage.TheVariants as stage

-- no row, and this end
abbrev pub ended : Option ScanFault → Stream ScanFault
ended fault = record { rows = []; fault = fault }

-- the stream without its first n rows
abbrev pub without : ℕ → Stream ScanFault → Stream ScanFault
without n u = record { rows = drop n u.rows; fault = u.fault }

-- the end of the rows, once it is known
abbrev pub ending_of : Stage → Option (Option ScanFault)
ending_of stage.Header = None
ending_of stage.Rows = None
ending_of (stage.Closed fault) = Some fault
ending_of (stage.Failed fault) = Some (Some fault)
