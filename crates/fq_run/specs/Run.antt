-- What a run answers.
use Rattle.std.specs.Prelude.{◌≡◌, ◌≢◌, ◌<◌, ℕ, Bool, ◌==◌, not, ◌&&◌, nat_le, ⊤, List, map, length, zip, flat_map, Option, Some, None, Result, Ok, Err, IfErr, IfOk, IsOk, OnOk, if◌then◌else◌}
use Rattle.std.specs.Io.KnownBytes.{Appends, Keeps}
use Rattle.fq_column.specs.Frame.{Frame}
use Rattle.fq_column.specs.Lists.{numbers, pieces}
use Rattle.fq_column.specs.Stream.{Stream}
use Rattle.fq_csv.specs.Printed.{printed_in}
use Rattle.fq_csv.specs.declared.faults.ScanFault.{ScanFault}
use Rattle.fq_lanes.specs.declared.faults.RunFault.{RunFault}
use Rattle.fq_lanes.specs.declared.reports.Report.{Report}
use Rattle.fq_lanes.specs.declared.faults.RunFault.TheVariants as engine
use Rattle.fq_notation.specs.declared.notations.Notation.{Notation}
use Rattle.fq_run.specs.declared.faults.Fault.{Fault}
use Rattle.fq_run.specs.declared.faults.Fault.TheVariants.{Inputs, Setting, Memory, Read, Write}
use Rattle.fq_csv.specs.declared.scanning.scanners.TheConstants.{MAX_BATCH_SIZE}
use Rattle.fq_lanes.specs.declared.work.TheConstants.{MAX_WORKERS}

-- whether a number lies from low to high
abbrev pub is_within : ℕ → ℕ → ℕ → Bool
is_within low high n = nat_le low n && nat_le n high

-- why a run does not start: the number of inputs, then the settings
abbrev pub start_refusal : ℕ → ℕ → ℕ → ℕ → Option Fault
start_refusal wanted got batch_size workers =
    if not (got == wanted) then Some (Inputs wanted got)
    else if not (is_within 1 MAX_BATCH_SIZE batch_size && is_within 1 MAX_WORKERS workers) then Some Setting
    else None

-- the faults of a run that does not start
abbrev pub IsStartFault : Fault → Type 0
IsStartFault (Inputs wanted got) = ⊤
IsStartFault Setting = ⊤
IsStartFault _ = ⊥

-- the faults of a run that has started, up to its writing
abbrev pub IsRunFault : Fault → Type 0
IsRunFault (Inputs wanted got) = ⊥
IsRunFault Setting = ⊥
IsRunFault Write = ⊥
IsRunFault _ = ⊤

-- the faults that are a plan's meaning: of a file's text, or of a step on its rows
abbrev pub IsOfMeaning : Fault → Type 0
IsOfMeaning (Inputs wanted got) = ⊥
IsOfMeaning Setting = ⊥
IsOfMeaning Memory = ⊥
IsOfMeaning (Read file) = ⊥
IsOfMeaning Write = ⊥
IsOfMeaning _ = ⊤

-- the faults of the engine, and the engine's own as one of the run
abbrev pub IsEngineFault : Fault → Type 0
IsEngineFault Memory = ⊤
IsEngineFault (Read file) = ⊤
IsEngineFault _ = ⊥

abbrev pub engine_fault : RunFault → Fault
engine_fault engine.Memory = Memory
engine_fault (engine.Read file) = Read file

-- a failed read is of one of so many files
abbrev pub NamesFile : ℕ → Fault → Type 0
NamesFile files (Read file) = file < files
NamesFile files _ = ⊤

-- each reader tells its bytes
abbrev pub Tell : {R : Type 0} → (R → Option (List ℕ)) → List R → List (List ℕ) → Type 0
Tell remaining readers files = map remaining readers ≡ map Some files

-- the numbers of the batches of each file, in order: the file's, then the batch's
abbrev pub trace_of : ℕ → List (Stream ScanFault) → List (ℕ × ℕ)
trace_of batch_size us = flat_map (λ p. map (λ serial. (p.0, serial)) (numbers (length (pieces batch_size p.1.rows)))) (zip (numbers (length us)) us)

-- ---- the answer

-- below, a run wants so many files and is given so many readers, which tell the bytes of files if `Told` holds of these; they come to
-- streams, which have an outcome, and the trace that a report holds; a frame is written in these notations
module _ (wanted given batch_size workers : ℕ) (Told : List (List ℕ) → Type 0) (streams : List (List ℕ) → List (Stream ScanFault)) (outcome : List (Stream ScanFault) → Result Frame Fault) (notations : List Notation) where
  -- what is answered, where the output held these bytes and now holds those
  pub record IsAnswer (before after : Option (List ℕ)) (result : Result Report Fault) : Type 0 where
    -- the number of inputs is judged first, then the settings
    pub refused : (f : Fault) → start_refusal wanted given batch_size workers ≡ Some f → result ≡ Err f
    pub started : IfErr result (λ f. IsStartFault f → start_refusal wanted given batch_size workers ≡ Some f)
    -- a report: the frame of the outcome was written, and each file's batches were taken in order
    pub printed : (files : List (List ℕ)) → Told files → OnOk result ((frame : Frame) × (outcome (streams files) ≡ Ok frame) × Appends before after (printed_in notations frame))
    pub trace : (files : List (List ℕ)) → Told files → IfOk result (λ report. report.trace.items ≡ trace_of batch_size (streams files))
    -- a fault of the files or of the steps is the outcome
    pub fault : (files : List (List ℕ)) → Told files → IfErr result (λ f. IsOfMeaning f → outcome (streams files) ≡ Err f)
    -- a failed read names one of the files that were given, whatever their readers tell
    pub read : IfErr result (NamesFile given)
    -- a failed write is answered only if the outcome is a frame
    pub write : (files : List (List ℕ)) → Told files → result ≡ Err Write → IsOk (outcome (streams files))
    pub unwritten : IfErr result (λ f. f ≢ Write → Keeps before after)
