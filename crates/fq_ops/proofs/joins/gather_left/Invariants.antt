use Rattle.std.proofs.Common.{◌≡◌, [], ◌++◌, true, take}
use Rattle.fq_ops.specs.Pairs.{left_value}
use Rattle.fq_ops.specs.Picks.{columns_of, picks_from}
use Rattle.fq_ops.proofs.joins.gather_left.Given as goal

abbrev pub invariant-loop-i : goal.invariant-loop-i
invariant-loop-i l = l.columns.items ≡ columns_of ([] ++ picks_from (λ _. true) (left_value l.left.rows) 0 (take l.i l.left.fields)) l.pairs
