use Rattle.std.proofs.Common.{◌≡◌, flat_map, map, take}
use Rattle.fq_shell.specs.Notations.{entries_of}
use Rattle.fq_shell.proofs.notations.entries_in.Given as goal

abbrev pub invariant-loop-list : goal.invariant-loop-list
invariant-loop-list l = map (λ entry. entry.now) l.entries.items ≡ flat_map entries_of (map (λ list. list.now) (take l.list-index l.lists))
