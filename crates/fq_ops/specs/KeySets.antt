-- What contracts see of the key of a row, and of a set of keys.
use Rattle.std.specs.Prelude.{◌≡◌, ℕ, Bool, true, false, List, [], ◌∷◌, map, length, slice_get, slice_index_or, Option, Some, Ok, ℤ}
use Rattle.indexmap.specs.IndexSet.{IndexSet}
use Rattle.fq_column.specs.declared.cells.Kind.TheVariants as kind
use Rattle.fq_column.specs.declared.cells.Cell.{Cell}
use Rattle.fq_column.specs.declared.cells.Cell.TheVariants.{Whole}
use Rattle.fq_column.specs.Column.{nullable}
use Rattle.fq_column.specs.Frame.{Fields, Name, kinds_of}
use Rattle.fq_column.specs.Schema.{kind_named}
use Rattle.fq_ops.specs.declared.key_sets.Form.{Form}
use Rattle.fq_ops.specs.declared.key_sets.Form.TheVariants as form

-- a row's key, and whether it is kept as one whole number or null
pub record KeyOfRow : Type 0 where
  pub cells : List Cell
  pub is_whole : Bool

-- the keys in the order of insertion, and whether each is kept so
pub record KeysOfRows : Type 0 where
  pub keys : List (List Cell)
  pub is_whole : Bool

-- the key that one whole number is, or null
abbrev pub whole_key : Option ℤ → List Cell
whole_key value = nullable Whole value ∷ []

abbrev pub key_of_row : Form (Option ℤ) (List Cell) → KeyOfRow
key_of_row (form.Whole value) = record { cells = whole_key value; is_whole = true }
key_of_row (form.Any key) = record { cells = key; is_whole = false }

abbrev pub keys_of_set : {S T : Type 0} → Form (IndexSet (Option ℤ) S) (IndexSet (List Cell) T) → KeysOfRows
keys_of_set (form.Whole seen) = record { keys = map whole_key seen.keys; is_whole = true }
keys_of_set (form.Any seen) = record { keys = seen.keys; is_whole = false }

-- there is one name, and it names a column of whole numbers
pub record IsWholeNamed (fields : Fields) (names : List Name) : Type 0 where
  pub one : length names ≡ 1
  pub kind : kind_named fields (slice_index_or names 0 []) ≡ Ok kind.Whole

-- there is one place, and a column of whole numbers stands there
pub record IsWholeAt (fields : Fields) (places : List ℕ) : Type 0 where
  pub one : length places ≡ 1
  pub kind : slice_get (kinds_of fields) (slice_index_or places 0 0) ≡ Some kind.Whole
