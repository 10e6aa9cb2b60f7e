-- What a reader of records has left.
use Rattle.std.specs.Prelude.{◌≡◌, ◌+◌, ℕ, true, List, Option, length, Some}
use Rattle.std.specs.Borrow.{Bor}
use Rattle.std.specs.Io.Chain.{chain_remaining}
use Rattle.std.specs.declared.io.traits.Chain.{Chain}
use Rattle.csv.specs.Reading.{Ready, default_config, is_flexible, reader_config, reader_state, reader_trim, records_from, source_of}
use Rattle.csv.specs.declared.parser.State.{State}
use Rattle.csv.specs.declared.reader.Trim.TheVariants as trim
use Rattle.fq_csv.specs.File.{Record}
use Rattle.fq_csv.specs.declared.readers.RecordReader.{RecordReader}
use Rattle.fq_csv.specs.declared.cutting.retrying.Retrying.{Retrying}

-- the records of the bytes that are left, from a state of the parser
abbrev pub records_left : State → List ℕ → List Record
records_left s bytes = records_from default_config (length bytes + 1) s bytes

-- a reader with the crate's defaults, but for records of different widths, whose next read is of one record
abbrev pub IsPlain : {R : Type 0} → RecordReader R → Type 0
IsPlain r = (reader_trim r.reader ≡ trim.None) × Ready r.reader × (reader_config r.reader ≡ default_config) × (is_flexible r.reader ≡ true)

-- by what a source has left
module _ {R : Type 0} (remaining : R → Option (List ℕ)) where
  -- what it has left if its reads are tried again
  abbrev pub retried : Retrying R → Option (List ℕ)
  retried s = remaining s.reader

  -- these are the records that a reader of it has left
  abbrev pub HasLeft : RecordReader R → List Record → Type 0
  HasLeft r rs = (bytes : List ℕ) × (source_of retried r.reader ≡ Some bytes) × (rs ≡ records_left (reader_state r.reader) bytes)

-- what a reader of a text reads: a line feed, and then the text
abbrev pub TextSource : Type 0
TextSource = Chain (Bor (List ℕ)) (List ℕ)

-- the same, of a reader of a text
abbrev pub TextHasLeft : RecordReader TextSource → List Record → Type 0
TextHasLeft = HasLeft (chain_remaining (λ (first : Bor (List ℕ)). Some first.now) (λ (text : List ℕ). Some text))
