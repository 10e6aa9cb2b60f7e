use Rattle.std.proofs.Common.{◌≡◌, ◌≤◌, ℕ, length, take}
use Rattle.fq_column.specs.Lists.{keep}
use Rattle.fq_column.specs.Validity.{mark_at, marks}
use Rattle.fq_column.proofs.validity.compact_marks.Given as goal

abbrev pub invariant-loop-i : goal.invariant-loop-i
invariant-loop-i l = (l.count ≤ l.i) × (length l.words.items ≡ length l.initial.words.items)
    × (marks l.words.items l.count ≡ keep (take l.i l.mask) (marks l.initial.words.items l.i))
    × ((j : ℕ) → l.i ≤ j → mark_at l.words.items j ≡ mark_at l.initial.words.items j)
