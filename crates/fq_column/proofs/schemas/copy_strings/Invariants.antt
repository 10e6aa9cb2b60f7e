use Rattle.std.proofs.Common.{◌≡◌, map, take, string_bytes}
use Rattle.fq_column.proofs.schemas.copy_strings.Given as goal

abbrev pub invariant-loop-string : goal.invariant-loop-string
invariant-loop-string l = map string_bytes l.copies.items ≡ map string_bytes (take l.string-index l.strings)
