use Rattle.std.proofs.Common.{◌≡◌, [], length, slice_index_or}
use Rattle.fq_ops.specs.Grouping.{key_at}
use Rattle.fq_ops.specs.Pairs.{IsIndex}
use Rattle.fq_ops.proofs.joins.index_rows.Given as goal

abbrev pub invariant-loop-row : goal.invariant-loop-row
invariant-loop-row l = record {
  size : length l.key.cells ≡ length l.on;
  form : l.key.is_whole ≡ l.seen.is_whole;
  whole : l.seen.is_whole ≡ l.fn.seen.is_whole;
  beside : length l.groups.items ≡ length l.seen.keys;
  index : IsIndex l.nulls_equal (λ n. key_at l.on (slice_index_or l.right.rows n [])) l.row l.seen.keys l.groups.items;
}
