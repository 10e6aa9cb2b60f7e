-- All that a scanner hands out over a stream, and a run of its calls.
use Rattle.std.specs.Prelude.{◌≡◌, ◌+◌, ◌⊎◌, ⊤, ℕ, List, [], ◌∷◌, length, Some}
use Rattle.fq_column.specs.Frame.{Fields, Frame, Row}
use Rattle.fq_column.specs.Lists.{pieces}
use Rattle.fq_column.specs.Stream.{Stream}
use Rattle.fq_csv.specs.Scan.{HandsOut, HasForm, IsFailed, Scanning}
use Rattle.fq_csv.specs.declared.faults.ScanFault.{ScanFault}
use Rattle.fq_csv.specs.declared.scanning.scans.Scan.{Scan}
use Rattle.fq_csv.specs.declared.scanning.scans.Scan.TheVariants.{Batch, End}

abbrev pub framed : Fields → List Row → Frame
framed fields rows = record { fields = fields; rows = rows }

-- runs of rows as batches, with serials from this one on, and then the end with their number
abbrev pub answers_from : ℕ → Fields → ℕ → List (List Row) → Scan → List Scan
answers_from file fields serial [] end = end ∷ []
answers_from file fields serial (rows ∷ more) end = Batch file serial (framed fields rows) ∷ answers_from file fields (serial + 1) more end

-- the rows of a stream in runs of `size`, and then its end
abbrev pub answers : ℕ → Fields → ℕ → ℕ → Stream ScanFault → List Scan
answers file fields size serial u = answers_from file fields serial (pieces size u.rows) (End file (serial + length (pieces size u.rows)) u.fault)

-- a list of calls takes a scan from one state to another
abbrev pub IsRun : Scanning → List Scan → Scanning → Type 0
IsRun old [] new = old ≡ new
IsRun old (x ∷ xs) new =
    (mid : Scanning) × HasForm old x mid × ((u : Stream ScanFault) → old.upcoming ≡ Some u → HandsOut old.file old.batch_size u x mid.upcoming) × IsRun mid xs new

-- what was handed out is what was expected, up to the end, or up to word of a failure
abbrev pub Follows : ℕ → List Scan → List Scan → Type 0
Follows file expected [] = ⊤
Follows file [] (x ∷ xs) = ⊥
Follows file (y ∷ ys) (Batch number serial batch ∷ xs) = (y ≡ Batch number serial batch) × Follows file ys xs
Follows file (y ∷ ys) (End number batches fault ∷ xs) = (y ≡ End number batches fault) ⊎ IsFailed file fault
