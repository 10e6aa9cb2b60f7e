use Rattle.std.proofs.Common.{◌≡◌, ◌++◌, take}
use Rattle.fq_column.proofs.arrays.TextElement.append_copies.Given as goal

abbrev pub invariant-loop-other : goal.invariant-loop-other
invariant-loop-other l = l.items.items ≡ l.initial.items.items ++ take l.other-index l.others
