use Rattle.std.proofs.Common.{◌≡◌, map, string_bytes, take}
use Rattle.fq_notation.proofs.named.NamedNotations.copy.Given as goal

abbrev pub invariant-loop-entry : goal.invariant-loop-entry
invariant-loop-entry l = l.copied ≡ map (λ entry. (string_bytes entry.0, entry.1)) (take l.entry-index l.entries)
