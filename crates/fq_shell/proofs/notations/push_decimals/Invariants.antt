use Rattle.std.proofs.Common.{◌≡◌, ◌++◌, List, Some, map, string_bytes, take}
use Rattle.fq_notation.specs.Notation.{Named}
use Rattle.fq_shell.specs.Notations.{decimal_entries}
use Rattle.fq_shell.proofs.notations.push_decimals.Given as goal

abbrev pub invariant-loop-entry : goal.invariant-loop-entry
invariant-loop-entry l =
    (more : List Named) × (decimal_entries (map (λ entry. entry.now) (take l.entry-index l.entries)) ≡ Some more)
    × (map (λ entry. (string_bytes entry.0, entry.1)) l.named.items ≡ map (λ entry. (string_bytes entry.0, entry.1)) l.fn.named.items ++ more)
