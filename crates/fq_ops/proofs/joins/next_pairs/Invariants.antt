use Rattle.std.proofs.Common.{◌≡◌, ℕ, List, [], length, ◌≤◌, ◌-◌, slice_index_or}
use Rattle.fq_column.specs.declared.cells.Cell.{Cell}
use Rattle.fq_ops.specs.Grouping.{key_at}
use Rattle.fq_ops.specs.Pairs.{IsIndex, matches_of, pairs_of}
use Rattle.std.specs.Prelude.{Bool}
use Rattle.fq_ops.specs.Probing.{IsCursor}
use Rattle.fq_ops.proofs.ProbingLemmas.{Gives}
use Rattle.fq_ops.proofs.joins.next_pairs.Given as goal

abbrev pub invariant-loop-at : goal.invariant-loop-at
invariant-loop-at v = record {
  size : length v.key.cells ≡ length v.on;
  form : v.key.is_whole ≡ v.seen.is_whole;
  few : length v.pairs ≤ v.most;
  pairs : (nulls_equal : Bool) (key : ℕ → List Cell) (n : ℕ) → IsIndex nulls_equal key n v.seen.keys v.groups.items →
      let output = λ (p : ℕ). pairs_of v.how p (matches_of nulls_equal key n (key_at v.on (slice_index_or v.left.rows p []))) in
      IsCursor output (length v.left.rows) v.fn.from → Gives output (length v.left.rows) v.fn.from v.pairs v.at;
}

abbrev pub decreases-loop-at : goal.decreases-loop-at
decreases-loop-at v = length v.left.rows - v.at.row
