-- The bytes of a file that are left, and the records that are taken of them.
use Rattle.std.specs.Prelude.{◌≡◌, ◌≤◌, ◌<◌, ◌∷◌, ◌++◌, ◌⊎◌, MatchBool, true, false, ℕ, List, [], length, drop, Option, Some, option_map, if◌then◌else◌}
use Rattle.std.specs.Io.KnownBytes.{IsAtEnd, Keeps, prepend_known}
use Rattle.csv.specs.Reading.{default_config, records, strip_bom}
use Rattle.fq_csv.specs.Cutting.{AreRecords}
use Rattle.fq_csv.specs.File.{Record}
use Rattle.fq_csv.specs.declared.cutting.buffers.Buffer.{Buffer}
use Rattle.fq_csv.specs.declared.cutting.Ends.{Ends}
use Rattle.fq_csv.specs.declared.faults.ScanFault.{ScanFault}
use Rattle.fq_csv.specs.declared.faults.ScanFault.TheVariants.{Read, Memory}

-- the bytes that were read and not taken
abbrev pub rest_of : {R : Type 0} → Buffer R → List ℕ
rest_of b = drop b.at b.text.items

-- the bytes that are left: these, and then those of the reader, if they are known
abbrev pub left_of : {R : Type 0} → (R → Option (List ℕ)) → Buffer R → Option (List ℕ)
left_of remaining b = prepend_known (rest_of b) (remaining b.reader.reader)

-- the same, without a byte order mark where the file begins
abbrev pub unread_of : {R : Type 0} → (R → Option (List ℕ)) → Buffer R → Option (List ℕ)
unread_of remaining b = if b.has_begun then left_of remaining b else option_map strip_bom (left_of remaining b)

-- the next record starts within the text, at its start where the file begins, and a reader that is at its end has no byte
pub record IsSound {R : Type 0} (remaining : R → Option (List ℕ)) (b : Buffer R) : Type 0 where
  pub inside : b.at ≤ length b.text.items
  pub start : b.has_begun ≡ false → b.at ≡ 0
  pub end : b.is_last ≡ true → IsAtEnd (remaining b.reader.reader)

-- more of the file was read, and nothing of it was taken
pub record ReadsOn {R : Type 0} (remaining : R → Option (List ℕ)) (old new : Buffer R) : Type 0 where
  pub file : new.file ≡ old.file
  pub begun : new.has_begun ≡ old.has_begun
  pub failed : new.has_failed ≡ old.has_failed
  pub bytes : List ℕ
  pub added : rest_of new ≡ rest_of old ++ bytes
  pub left : Keeps (left_of remaining old) (left_of remaining new)

-- the reader failed, or an allocation failed and the reader was not asked
abbrev pub FailsBy : {R : Type 0} → Buffer R → Buffer R → ScanFault → Type 0
FailsBy old new fault = ((fault ≡ Read old.file) × (new.has_failed ≡ true)) ⊎ ((fault ≡ Memory) × (new.reader ≡ old.reader))

-- these are the records of the bytes before, and then come those of the bytes after
abbrev pub Passes : Option (List ℕ) → List Record → Option (List ℕ) → Type 0
Passes before rs after = (bytes : List ℕ) → before ≡ Some bytes → (rest : List ℕ) × (after ≡ Some rest) × (records default_config bytes ≡ rs ++ records default_config rest)

-- whole records were added to a text, up to so many; if there are fewer, the bytes that were read and are left are one record if nothing follows them, or there are none
pub record HandsOn {R : Type 0} (remaining : R → Option (List ℕ)) (old new : Buffer R) (wanted : ℕ) (before text : List ℕ) (ends : Ends) : Type 0 where
  pub few : ends.count ≤ wanted
  pub rs : List Record
  pub number : length rs ≡ ends.count
  pub part : List ℕ
  pub added : text ≡ before ++ part
  pub whole : AreRecords part rs
  pub passes : Passes (left_of remaining old) rs (left_of remaining new)
  pub last : ends.count < wanted → MatchBool ends.is_open ((r : Record) × (records default_config (rest_of new) ≡ r ∷ [])) (rest_of new ≡ [])

-- the next records were taken as a text, up to so many; fewer only if no other is left
pub record TakesText {R : Type 0} (remaining : R → Option (List ℕ)) (old new : Buffer R) (wanted : ℕ) (text : List ℕ) (count : ℕ) : Type 0 where
  pub few : count ≤ wanted
  pub number : length (records default_config text) ≡ count
  pub rest : (bytes : List ℕ) → unread_of remaining old ≡ Some bytes
      → (after : List ℕ) × (unread_of remaining new ≡ Some after) × (records default_config bytes ≡ records default_config text ++ records default_config after)
      × (count < wanted → records default_config after ≡ [])
