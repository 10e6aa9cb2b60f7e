-- The places of the rows of each key of a join's right side.
use Rattle.std.specs.Prelude.{◌≡◌, ℕ, ◌≤◌, Bool, true, List, length}
use Rattle.fq_column.specs.Frame.{Frame, IsFrame, Name}
use Rattle.fq_ops.specs.KeySets.{IsWholeNamed, KeysOfRows}
use Rattle.fq_ops.specs.Pairs.{IsIndex, named_key}

pub record IsIndexed (right : Frame) (on : List Name) (nulls_equal : Bool) (seen : KeysOfRows) (groups : List (List ℕ)) : Type 0 where
  pub beside : length groups ≡ length seen.keys
  pub index : IsIndex nulls_equal (named_key right.fields on right.rows) (length right.rows) seen.keys groups
  pub whole : seen.is_whole ≡ true → IsWholeNamed right.fields on
  pub some : 1 ≤ length on
  pub frame : IsFrame right
