use Rattle.std.proofs.Common.{◌≡◌, ◌<◌, ◌+◌, ℕ, length}
use Rattle.fq_column.specs.Validity.{mark_at}
use Rattle.fq_column.proofs.validity.copy_marks.Given as goal

abbrev pub invariant-loop-i : goal.invariant-loop-i
invariant-loop-i l = (length l.words.items ≡ length l.initial.words.items)
    × ((j : ℕ) → j < l.len → mark_at l.words.items j ≡ mark_at l.initial.words.items j)
    × ((j : ℕ) → j < l.i → mark_at l.words.items (l.len + j) ≡ mark_at l.others.items j)
