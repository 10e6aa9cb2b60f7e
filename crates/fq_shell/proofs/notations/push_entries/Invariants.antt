use Rattle.std.proofs.Common.{◌≡◌, ◌++◌, length, map}
use denote.Text.{Utf8}
use denote.Shadow.{shadow}
use Rattle.fq_shell.specs.Notations.{entries_of}
use Rattle.fq_shell.proofs.notations.push_entries.Given as goal

-- the entries so far, and those of the rest, are those of the list
abbrev pub invariant-loop-entry : goal.invariant-loop-entry
invariant-loop-entry l = shadow (Utf8 l.rest)
    × (map (λ entry. entry.now) l.entries.items ++ entries_of l.rest ≡ map (λ entry. entry.now) l.fn.entries.items ++ entries_of l.list)

abbrev pub decreases-loop-entry : goal.decreases-loop-entry
decreases-loop-entry l = length l.rest
