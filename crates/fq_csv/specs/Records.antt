-- The records that a file has still to give.
use Rattle.std.specs.Prelude.{◌≡◌, ◌<◌, ◌≤◌, ◌++◌, ◌⊎◌, ⊤, length, Bool, true, ℕ, List, [], Option, Some, None, option_map}
use Rattle.csv.specs.Reading.{default_config, records}
use Rattle.fq_csv.specs.Buffer.{unread_of}
use Rattle.fq_csv.specs.File.{Record}
use Rattle.fq_csv.specs.declared.cutting.buffers.Buffer.{Buffer}
use Rattle.fq_csv.specs.declared.faults.ScanFault.{ScanFault}
use Rattle.fq_csv.specs.declared.faults.ScanFault.TheVariants.{Header, Width, BadCell, TooLong, Read, Memory}

-- the file's number, the records still to come, if the reader tells its bytes, and whether the reader failed
pub record Unread : Type 0 where
  pub file : ℕ
  pub upcoming : Option (List Record)
  pub stopped : Bool

-- the records that a file has left, if its bytes are known
abbrev pub upcoming_of : {R : Type 0} → (R → Option (List ℕ)) → Buffer R → Option (List Record)
upcoming_of remaining b = option_map (records default_config) (unread_of remaining b)

-- the next records were taken as a text, up to so many; fewer only if no other is left
pub record Takes (old : Unread) (wanted : ℕ) (text : List ℕ) (count : ℕ) (new : Unread) : Type 0 where
  pub few : count ≤ wanted
  pub number : length (records default_config text) ≡ count
  pub rest : (before : List Record) → old.upcoming ≡ Some before
      → (after : List Record) × (new.upcoming ≡ Some after) × (before ≡ records default_config text ++ after) × (count < wanted → after ≡ [])

-- the reader or an allocation failed
abbrev pub IsFailure : ℕ → ScanFault → Type 0
IsFailure file fault = (fault ≡ Read file) ⊎ (fault ≡ Memory)

-- the same, and a reader that failed has stopped
abbrev pub StopsBy : ℕ → Bool → ScanFault → Type 0
StopsBy file stopped fault = ((fault ≡ Read file) × (stopped ≡ true)) ⊎ (fault ≡ Memory)

-- the rows end as the text of the file says, and not because the reader or an allocation failed
abbrev pub IsOfText : Option ScanFault → Type 0
IsOfText None = ⊤
IsOfText (Some (Header file)) = ⊤
IsOfText (Some (Width file row)) = ⊤
IsOfText (Some (BadCell file row column)) = ⊤
IsOfText (Some (TooLong file)) = ⊤
IsOfText (Some (Read file)) = ⊥
IsOfText (Some Memory) = ⊥
