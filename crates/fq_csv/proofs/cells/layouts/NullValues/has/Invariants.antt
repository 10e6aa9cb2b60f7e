use Rattle.std.proofs.Common.{◌≡◌, map, take, string_bytes, false}
use Rattle.fq_csv.specs.Field.{is_one_of}
use Rattle.fq_csv.proofs.cells.layouts.NullValues.has.Given as goal

-- none of the texts so far is the field
abbrev pub invariant-loop-text : goal.invariant-loop-text
invariant-loop-text l = is_one_of (map string_bytes (take l.text-index l.text-items)) l.field ≡ false
