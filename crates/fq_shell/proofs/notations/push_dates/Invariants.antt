use Rattle.std.proofs.Common.{◌≡◌, ◌++◌, map, string_bytes, take}
use Rattle.fq_shell.specs.Notations.{date_entries}
use Rattle.fq_shell.proofs.notations.push_dates.Given as goal

abbrev pub invariant-loop-name : goal.invariant-loop-name
invariant-loop-name l =
    map (λ entry. (string_bytes entry.0, entry.1)) l.named.items
    ≡ map (λ entry. (string_bytes entry.0, entry.1)) l.fn.named.items ++ date_entries (map (λ entry. entry.now) (take l.name-index l.entries))
