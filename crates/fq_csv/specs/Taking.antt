-- The records of a file that may be rows, before their fields are read: up to the first that is past the limit.
use Rattle.std.specs.Prelude.{◌≡◌, ◌≤◌, ◌+◌, ◌++◌, ℕ, nat_lt, List, [], ◌∷◌, length, drop, Option, Some, None, option_map, if◌then◌else◌}
use Rattle.csv.specs.Reading.{default_config, records, strip_bom}
use Rattle.fq_column.specs.Frame.{Fields, Frame, names_of, same_name}
use Rattle.fq_column.specs.Stream.{Stream, then_stream}
use Rattle.fq_csv.specs.File.{Record, rows_after}
use Rattle.fq_csv.specs.Records.{IsOfText, Unread}
use Rattle.fq_csv.specs.Rows.{EndsAt}
use Rattle.fq_csv.specs.Stage.{ended}
use Rattle.fq_csv.specs.declared.faults.ScanFault.{ScanFault}
use Rattle.fq_csv.specs.declared.faults.ScanFault.TheVariants.{Header, TooLong}
use Rattle.fq_csv.specs.declared.cells.layouts.Layout.{Layout}
use Rattle.fq_csv.specs.declared.scanning.spans.Span.{Span}
use Rattle.fq_csv.specs.declared.scanning.stages.Stage.{Stage}
use Rattle.fq_csv.specs.declared.scanning.stages.Stage.TheVariants as stage
use Rattle.fq_csv.specs.declared.scanning.scanners.TheConstants.{MAX_ROWS}
use lib.Pointwise.{pointwise}

-- records, and the fault that ends them
pub record RecordStream : Type 0 where
  pub records : List Record
  pub fault : Option ScanFault

-- no record, and this end
abbrev pub over : Option ScanFault → RecordStream
over fault = record { records = []; fault = fault }

-- these records, and then a stream of others
abbrev pub then_records : List Record → RecordStream → RecordStream
then_records rs u = record { records = rs ++ u.records; fault = u.fault }

-- the stream without its first n records
abbrev pub without_records : ℕ → RecordStream → RecordStream
without_records n u = record { records = drop n u.records; fault = u.fault }

-- the fault that a record is, by its number alone, if it is one
abbrev pub record_fault : ℕ → ℕ → ℕ → Option ScanFault
record_fault file limit n = if nat_lt limit n then Some (TooLong file) else None

-- the stream of the records that follow n rows
abbrev pub records_after : ℕ → ℕ → ℕ → List Record → RecordStream
records_after file limit n [] = over None
records_after file limit n (r ∷ rs) = elim (record_fault file limit (n + 1)) [
  | Some fault ↦ over (Some fault)
  | None ↦ then_records (r ∷ []) (records_after file limit (n + 1) rs)
]

-- the stream of all records of a file
abbrev pub records_under_header : ℕ → Fields → ℕ → List Record → RecordStream
records_under_header file fields limit [] = over (Some (Header file))
records_under_header file fields limit (r ∷ rs) = if pointwise same_name (names_of fields) r then records_after file limit 0 rs else over (Some (Header file))

-- the stream of a file's bytes
abbrev pub record_stream : ℕ → Fields → ℕ → List ℕ → RecordStream
record_stream file fields limit bytes = records_under_header file fields limit (records default_config (strip_bom bytes))

-- the rows that such records are, after n rows: up to the first that is not a row
abbrev pub rows_of_records : ℕ → Layout → ℕ → ℕ → RecordStream → Stream ScanFault
rows_of_records file layout limit n u = then_stream (rows_after file layout limit n u.records) (ended u.fault)

-- ---- a run of records

-- the file and its layout, how many rows of it went before, and the records
pub record FieldRun : Type 0 where
  pub file : ℕ
  pub layout : Layout
  pub before : ℕ
  pub records : List Record

-- ---- records that are read

-- the records are the first of the stream before, which goes on with the stream after them; or they are all of it, with its end
abbrev pub RecordsGoOn : Stage → List Record → RecordStream → Option RecordStream → Type 0
RecordsGoOn stage.Header rs before after = ⊥
RecordsGoOn stage.Rows rs before after = (rest : RecordStream) × (after ≡ Some rest) × (before ≡ then_records rs rest)
RecordsGoOn (stage.Closed fault) rs before after = before ≡ record { records = rs; fault = fault }
RecordsGoOn (stage.Failed fault) rs before after = ⊥

-- so many records after row `from` were read, up to the limit and `size` of them, which this text is, and the file goes on after them
pub record ReadsRecords (span : Span) (old new : Unread) (stage : Stage) (text : List ℕ) (count : ℕ) : Type 0 where
  pub number : length (records default_config text) ≡ count
  pub in_limit : span.from + count ≤ span.limit
  pub ends : EndsAt stage span.size count
  pub goes_on : (before : List Record) → old.upcoming ≡ Some before
      → RecordsGoOn stage (records default_config text) (records_after old.file span.limit span.from before) (option_map (records_after old.file span.limit (span.from + count)) new.upcoming)

-- the file ends here, since no record is left, or since one is too many
abbrev pub EndsAtLimit : Unread → Stage → Type 0
EndsAtLimit old stage.Header = ⊥
EndsAtLimit old stage.Rows = ⊥
EndsAtLimit old (stage.Closed None) = (before : List Record) → old.upcoming ≡ Some before → before ≡ []
EndsAtLimit old (stage.Closed (Some fault)) = (fault ≡ TooLong old.file) × ((before : List Record) → old.upcoming ≡ Some before → (r : Record) × (rs : List Record) × (before ≡ r ∷ rs))
EndsAtLimit old (stage.Failed fault) = ⊥

-- ---- the rows that a run's records are

-- the rows of a batch are those of a run, up to the first record that is not a row, which is this fault
pub record ReadsRun (run : FieldRun) (batch : Frame) (fault : Option ScanFault) : Type 0 where
  pub columns : batch.fields ≡ run.layout.schema
  pub in_limit : run.before + length run.records ≤ MAX_ROWS
  pub all : fault ≡ None → length batch.rows ≡ length run.records
  pub fewer : length batch.rows ≤ length run.records
  pub cause : IsOfText fault
  pub stream : (limit : ℕ) → run.before + length run.records ≤ limit → rows_after run.file run.layout limit run.before run.records ≡ record { rows = batch.rows; fault = fault }

-- the first record of a run is not a row, which is this fault
pub record HasNoRow (run : FieldRun) (fault : ScanFault) : Type 0 where
  pub cause : IsOfText (Some fault)
  pub stream : (limit : ℕ) → run.before + length run.records ≤ limit → rows_after run.file run.layout limit run.before run.records ≡ ended (Some fault)
