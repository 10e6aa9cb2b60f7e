use Rattle.std.proofs.Common.{◌≡◌, ◌++◌, List, not, map, take, string_bytes}
use Rattle.fq_column.specs.Frame.{has_name}
use Rattle.fq_ops.specs.Pairs.{Pair, right_value}
use Rattle.fq_ops.specs.Picks.{Pick, columns_of, picks_from}
use Rattle.fq_ops.proofs.joins.gather_right.Given as goal

abbrev pub invariant-loop-i : goal.invariant-loop-i
invariant-loop-i l = (picks : List (Pick Pair)) → l.initial.columns.items ≡ columns_of picks l.pairs →
    l.columns.items ≡ columns_of (picks ++ picks_from (λ n. not (has_name (map string_bytes l.on) n)) (right_value l.right.rows) 0 (take l.i l.right.fields)) l.pairs
