-- The streams of files, joined source by source, and the faults in which they end.
use Rattle.std.specs.Prelude.{List, [], ◌∷◌, take, drop, Option, Some, None}
use Rattle.fq_column.specs.Frame.{Frame}
use Rattle.fq_column.specs.Lists.{zip_with}
use Rattle.fq_column.specs.Stream.{Stream, done, then_stream}
use Rattle.fq_csv.specs.Sources.{Source}
use Rattle.fq_csv.specs.declared.faults.ScanFault.{ScanFault}
use Rattle.fq_csv.specs.declared.faults.ScanFault.TheVariants as scan
use Rattle.fq_expr.specs.declared.fronts.RowFault.{RowFault}
use Rattle.fq_run.specs.declared.faults.Fault.{Fault}
use Rattle.fq_run.specs.declared.faults.Fault.TheVariants.{Memory, Read, Header, Width, BadCell, TooLong, Overflow}

-- a fault of a file as a fault of the run
abbrev pub scan_fault : ScanFault → Fault
scan_fault (scan.Header file) = Header file
scan_fault (scan.Width file row) = Width file row
scan_fault (scan.BadCell file row column) = BadCell file row column
scan_fault (scan.TooLong file) = TooLong file
scan_fault (scan.Read file) = Read file
scan_fault scan.Memory = Memory

-- a fault of a row-wise step as a fault of the run
abbrev pub row_fault : RowFault → Fault
row_fault f = Overflow f.step f.item

-- the sources' columns with the rows of their streams
abbrev pub frames_of : {F : Type 0} → List Source → List (Stream F) → List Frame
frames_of sources us = zip_with (λ s u. record { fields = s.fields; rows = u.rows }) sources us

module _ {F : Type 0} where
  -- streams joined, one after the other
  abbrev pub concat_streams : List (Stream F) → Stream F
  concat_streams [] = done []
  concat_streams (u ∷ us) = then_stream u (concat_streams us)

  -- the stream of each source: its files' streams joined in argument order
  abbrev pub source_streams : List Source → List (Stream F) → List (Stream F)
  source_streams [] us = []
  source_streams (s ∷ sources) us = concat_streams (take s.files us) ∷ source_streams sources (drop s.files us)

  -- the fault of the first stream that ends in one
  abbrev pub first_fault : List (Stream F) → Option F
  first_fault [] = None
  first_fault (u ∷ us) = elim u.fault [ Some f ↦ Some f | None ↦ first_fault us ]
