-- What a writer does with a field and with a record.
use Rattle.std.specs.Prelude.{◌≡◌, ◌==◌, ◌+◌, ◌++◌, true, false, not, ℕ, List, length, Option, Some, Vec}
use Rattle.std.specs.Io.KnownBytes.{Appends}
use Rattle.csv.specs.Writing.{default_writer, field_text, fields_written, has_written, next_sep, row_text, text_written, writer_setup}
use Rattle.csv.specs.declared.writer.Writer.{Writer}

-- the bytes that a text in memory holds
abbrev pub held : {A : Type 0} → Vec ℕ A → Option (List ℕ)
held text = Some text.items

-- a writer with the crate's defaults that stands between two records
pub record IsBetween {W : Type 0} (writer : Writer W) : Type 0 where
  pub setup : writer_setup writer ≡ default_writer
  pub start : fields_written writer ≡ 0
  pub clean : has_written writer ≡ false

-- one more field of a record was written
pub record PutsField {W : Type 0} (contents : W → Option (List ℕ)) (old new : Writer W) (field : List ℕ) : Type 0 where
  pub setup : writer_setup new ≡ default_writer
  pub count : fields_written new ≡ fields_written old + 1
  pub text : Appends (text_written contents old) (text_written contents new) (next_sep default_writer (fields_written old) ++ field_text default_writer field)
  pub wrote : has_written old ≡ false → has_written new ≡ not (length (field_text default_writer field) == 0)
  pub stays : has_written old ≡ true → has_written new ≡ true

-- a record was written
pub record PutsRecord {W : Type 0} (contents : W → Option (List ℕ)) (old new : Writer W) (fields : List (List ℕ)) : Type 0 where
  pub between : IsBetween new
  pub text : Appends (text_written contents old) (text_written contents new) (row_text default_writer fields)
