use Rattle.std.proofs.Common.{◌≡◌, ◌≤◌, length, take, drop}
use Rattle.fq_column.specs.Lists.{keep}
use Rattle.fq_column.proofs.arrays.compact.Given as goal

abbrev pub invariant-loop-i : goal.invariant-loop-i
invariant-loop-i g l = (l.count ≤ l.i) × (length l.items.items ≡ length l.initial.items.items) × (length l.mask ≡ length l.initial.items.items)
    × (take l.count l.items.items ≡ keep (take l.i l.mask) (take l.i l.initial.items.items))
    × (drop l.i l.items.items ≡ drop l.i l.initial.items.items)
