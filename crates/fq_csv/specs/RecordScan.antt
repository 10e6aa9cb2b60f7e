-- What a scanner of records has still to hand out, and what one call of it hands out.
use Rattle.std.specs.Prelude.{◌≡◌, ◌+◌, ◌<◌, ◌≤◌, ◌⊎◌, ℕ, Bool, true, false, List, length, take, Option, Some, None, Result, Ok, Err, option_map}
use Rattle.fq_column.specs.Frame.{Fields}
use Rattle.fq_csv.specs.File.{Record}
use Rattle.fq_csv.specs.Records.{IsFailure, IsOfText, StopsBy, Unread}
use Rattle.fq_csv.specs.Rows.{EndsAt}
use Rattle.fq_csv.specs.Stage.{ending_of}
use Rattle.fq_csv.specs.Taking.{FieldRun, RecordStream, over, records_after, records_under_header, without_records}
use Rattle.fq_csv.specs.declared.faults.ScanFault.{ScanFault}
use Rattle.fq_csv.specs.declared.faults.ScanFault.TheVariants.{Header, Read, Memory}
use Rattle.fq_csv.specs.declared.cells.layouts.Layout.{Layout}
use Rattle.fq_csv.specs.declared.scanning.spans.Span.{Span}
use Rattle.fq_csv.specs.declared.scanning.stages.Stage.{Stage}
use Rattle.fq_csv.specs.declared.scanning.stages.Stage.TheVariants as stage
use Rattle.fq_csv.specs.declared.scanning.scanners.TheConstants.{MAX_ROWS}

-- ---- one step

-- the stream that is left after some rows, if the bytes are known and no read failed
abbrev pub records_left_at : Fields → ℕ → Stage → Unread → ℕ → Option RecordStream
records_left_at fields limit stage.Header unread row = option_map (records_under_header unread.file fields limit) unread.upcoming
records_left_at fields limit stage.Rows unread row = option_map (records_after unread.file limit row) unread.upcoming
records_left_at fields limit (stage.Closed fault) unread row = Some (over fault)
records_left_at fields limit (stage.Failed fault) unread row = None

-- the records that a scan gives of those still to come are those of the stream, once the header was read; or there are none
abbrev pub OpensBy : Fields → Unread → Unread → Bool → Type 0
OpensBy fields old new true = (limit : ℕ) (before : List Record) → old.upcoming ≡ Some before → option_map (records_after old.file limit 0) new.upcoming ≡ Some (records_under_header old.file fields limit before)
OpensBy fields old new false = (limit : ℕ) (before : List Record) → old.upcoming ≡ Some before → records_under_header old.file fields limit before ≡ over (Some (Header old.file))

-- the header was read: the records follow, or there are none
abbrev pub Opens : Fields → Unread → Unread → Stage → Type 0
Opens fields old new stage.Header = ⊥
Opens fields old new stage.Rows = (limit : ℕ) (before : List Record) → old.upcoming ≡ Some before → option_map (records_after old.file limit 0) new.upcoming ≡ Some (records_under_header old.file fields limit before)
Opens fields old new (stage.Closed fault) = IsOfText fault × ((limit : ℕ) (before : List Record) → old.upcoming ≡ Some before → records_under_header old.file fields limit before ≡ over fault)
Opens fields old new (stage.Failed fault) = StopsBy old.file new.stopped fault

-- the run's records are the next `size` of the stream, or all that are left of it, and at least one
pub record GivesRun (span : Span) (layout : Layout) (old new : Unread) (before after : Stage) (run : FieldRun) : Type 0 where
  pub file : run.file ≡ old.file
  pub same_layout : run.layout ≡ layout
  pub place : run.before ≡ span.from
  pub some : 0 < length run.records
  pub in_limit : span.from + length run.records ≤ span.limit
  pub count : EndsAt after span.size (length run.records)
  pub stopped : new.stopped ≡ old.stopped
  pub stream : (u : RecordStream) → records_left_at layout.schema span.limit before old span.from ≡ Some u
      → (run.records ≡ take span.size u.records) × (records_left_at layout.schema span.limit after new (span.from + length run.records) ≡ Some (without_records span.size u))

-- no record is left, and the text and the stream end so, or the reader failed and has stopped, or an allocation failed
abbrev pub GivesNoRun : Span → Fields → Unread → Unread → Stage → Stage → Type 0
GivesNoRun span fields old new before stage.Header = ⊥
GivesNoRun span fields old new before stage.Rows = ⊥
GivesNoRun span fields old new before (stage.Closed fault) = (ending_of before ≡ None → IsOfText fault) × ((u : RecordStream) → records_left_at fields span.limit before old span.from ≡ Some u → u ≡ over fault)
GivesNoRun span fields old new before (stage.Failed fault) = ending_of before ≡ None → StopsBy old.file new.stopped fault

-- a step from one stage to the next gives a run, or none if the records are over
abbrev pub IsRunStep : Span → Layout → Unread → Unread → Stage → Stage → Option FieldRun → Type 0
IsRunStep span layout old new before after None = GivesNoRun span layout.schema old new before after
IsRunStep span layout old new before after (Some run) = GivesRun span layout old new before after run

-- ---- a scan of records

-- the file and its layout, the size of a run, how many rows went before, how many may still come, the records still to come,
-- if the reader tells its bytes and has not failed, the end, once it is known, and whether a read was the last, since the reader
-- failed in it or an allocation for its record did
pub record RecordScanning : Type 0 where
  pub file : ℕ
  pub layout : Layout
  pub run_size : ℕ
  pub taken : ℕ
  pub room : ℕ
  pub upcoming : Option RecordStream
  pub ending : Option (Option ScanFault)
  pub stopped : Bool

-- the file, its layout and the size of a run are the same
pub record IsSameRecordScan (old new : RecordScanning) : Type 0 where
  pub file : new.file ≡ old.file
  pub layout : new.layout ≡ old.layout
  pub size : new.run_size ≡ old.run_size

-- the form of a run, whatever the reader gives: the next records, which count, and as many as are wanted unless the text ends them
pub record IsNextRun (old : RecordScanning) (run : FieldRun) (new : RecordScanning) : Type 0 where
  pub number : run.file ≡ old.file
  pub layout : run.layout ≡ old.layout
  pub place : run.before ≡ old.taken
  pub some : 0 < length run.records
  pub fits : length run.records ≤ old.run_size
  pub full : length run.records < old.run_size → (fault : Option ScanFault) × (new.ending ≡ Some fault) × IsOfText fault
  pub not_ended : old.ending ≡ None
  pub same : IsSameRecordScan old new
  pub counted : new.taken ≡ old.taken + length run.records
  pub few : new.taken ≤ MAX_ROWS
  pub in_room : new.room + length run.records ≡ old.room
  pub stopped : new.stopped ≡ old.stopped

-- the form of an end, which is known from now on; if it was not yet, it is one of the text's, or the reader failed and has
-- stopped, or an allocation failed
pub record IsLastRun (old : RecordScanning) (fault : Option ScanFault) (new : RecordScanning) : Type 0 where
  pub known : new.ending ≡ Some fault
  pub cause : old.ending ≡ None → IsOfText fault ⊎ (((fault ≡ Some (Read old.file)) × (new.stopped ≡ true)) ⊎ (fault ≡ Some Memory))
  pub same : IsSameRecordScan old new
  pub taken : new.taken ≡ old.taken
  pub room : new.room ≡ old.room

abbrev pub HasRunForm : RecordScanning → Result (Option FieldRun) ScanFault → RecordScanning → Type 0
HasRunForm old (Ok (Some run)) new = IsNextRun old run new
HasRunForm old (Ok None) new = IsLastRun old None new
HasRunForm old (Err fault) new = IsLastRun old (Some fault) new

-- what is handed out of a stream: its first records, and the rest is left; or its end, which is left; or word of a failure
abbrev pub HandsOutRun : ℕ → ℕ → RecordStream → Result (Option FieldRun) ScanFault → Option RecordStream → Type 0
HandsOutRun file size u (Ok (Some run)) after = (run.records ≡ take size u.records) × (after ≡ Some (without_records size u))
HandsOutRun file size u (Ok None) after = (u ≡ over None) × (after ≡ Some u)
HandsOutRun file size u (Err fault) after = ((u ≡ over (Some fault)) × (after ≡ Some u)) ⊎ IsFailure file fault

-- an end as an answer
abbrev pub last_run : Option ScanFault → Result (Option FieldRun) ScanFault
last_run None = Ok None
last_run (Some fault) = Err fault
