-- What a scanner has still to hand out, and what one call of it hands out.
use Rattle.std.specs.Prelude.{◌≡◌, ◌+◌, ◌<◌, ◌≤◌, ◌⊎◌, ℕ, Bool, true, length, take, Option, Some, None, option_map}
use Rattle.fq_column.specs.Frame.{Frame}
use Rattle.fq_column.specs.Stream.{Stream}
use Rattle.fq_csv.specs.RecordScan.{RecordScanning}
use Rattle.fq_csv.specs.Records.{IsOfText}
use Rattle.fq_csv.specs.Stage.{ended, without}
use Rattle.fq_csv.specs.Taking.{rows_of_records}
use Rattle.fq_csv.specs.declared.faults.ScanFault.{ScanFault}
use Rattle.fq_csv.specs.declared.faults.ScanFault.TheVariants.{Read, Memory}
use Rattle.fq_csv.specs.declared.cells.layouts.Layout.{Layout}
use Rattle.fq_csv.specs.declared.scanning.scans.Scan.{Scan}
use Rattle.fq_csv.specs.declared.scanning.scans.Scan.TheVariants.{Batch, End}

-- the file and its layout, the size of a batch, how many batches went before, how many rows may still come,
-- the stream still to come, if the reader tells its bytes and has not failed, the end, once it is known, and whether a read
-- was the last, since the reader failed in it or an allocation for its record did
pub record Scanning : Type 0 where
  pub file : ℕ
  pub layout : Layout
  pub batch_size : ℕ
  pub serial : ℕ
  pub room : ℕ
  pub upcoming : Option (Stream ScanFault)
  pub ending : Option (Option ScanFault)
  pub stopped : Bool

-- the rows of the records still to come; none but the fault, if that ended the rows before the records
abbrev pub batches_left : Option ScanFault → RecordScanning → Option (Stream ScanFault)
batches_left None r = option_map (rows_of_records r.file r.layout (r.taken + r.room) r.taken) r.upcoming
batches_left (Some fault) r = Some (ended (Some fault))

-- the end of the rows, once it is known: that fault, or the records' end
abbrev pub rows_ending : Option ScanFault → Option (Option ScanFault) → Option (Option ScanFault)
rows_ending None ending = ending
rows_ending (Some fault) ending = Some (Some fault)

-- the file, its layout and the size of a batch are the same
pub record IsSameScan (old new : Scanning) : Type 0 where
  pub file : new.file ≡ old.file
  pub layout : new.layout ≡ old.layout
  pub size : new.batch_size ≡ old.batch_size

-- the form of a batch, whatever the reader gives: it has the next serial and some rows, which count, and it is full unless the text ends the rows after it
pub record IsNextBatch (old : Scanning) (file serial : ℕ) (batch : Frame) (new : Scanning) : Type 0 where
  pub number : file ≡ old.file
  pub in_order : serial ≡ old.serial
  pub schema : batch.fields ≡ old.layout.schema
  pub some : 0 < length batch.rows
  pub fits : length batch.rows ≤ old.batch_size
  pub full : length batch.rows < old.batch_size → (fault : Option ScanFault) × (new.ending ≡ Some fault) × IsOfText fault
  pub not_ended : old.ending ≡ None
  pub same : IsSameScan old new
  pub counted : new.serial ≡ old.serial + 1
  pub in_room : new.room + length batch.rows ≡ old.room
  pub stopped : new.stopped ≡ old.stopped

-- the form of an end: it has the number of batches, and is known from now on; if it was not yet, it is one of the text's, or
-- the reader failed and has stopped, or an allocation failed
pub record IsLastWord (old : Scanning) (file batches : ℕ) (fault : Option ScanFault) (new : Scanning) : Type 0 where
  pub number : file ≡ old.file
  pub counted : batches ≡ old.serial
  pub known : new.ending ≡ Some fault
  pub cause : old.ending ≡ None → IsOfText fault ⊎ (((fault ≡ Some (Read old.file)) × (new.stopped ≡ true)) ⊎ (fault ≡ Some Memory))
  pub same : IsSameScan old new
  pub serial : new.serial ≡ old.serial
  pub room : new.room ≡ old.room

abbrev pub HasForm : Scanning → Scan → Scanning → Type 0
HasForm old (Batch file serial batch) new = IsNextBatch old file serial batch new
HasForm old (End file batches fault) new = IsLastWord old file batches fault new

-- the reader or an allocation failed
abbrev pub IsFailed : ℕ → Option ScanFault → Type 0
IsFailed file fault = (fault ≡ Some (Read file)) ⊎ (fault ≡ Some Memory)

-- what is handed out of a stream: its first rows, and the rest is left; or its end, which is left; or word of a failure
abbrev pub HandsOut : ℕ → ℕ → Stream ScanFault → Scan → Option (Stream ScanFault) → Type 0
HandsOut file size u (Batch number serial batch) after = (batch.rows ≡ take size u.rows) × (after ≡ Some (without size u))
HandsOut file size u (End number batches fault) after = ((u ≡ ended fault) × (after ≡ Some u)) ⊎ IsFailed file fault
