use Rattle.std.proofs.Common.{◌≡◌, ◌<◌, ◌≤◌, length, map, take}
use Rattle.std.specs.Prelude.{All}
use Rattle.indexmap.specs.IndexSet.{insert_all}
use Rattle.fq_ops.specs.Accumulated.{numbers_along}
use Rattle.fq_ops.specs.Group.{same_key}
use Rattle.fq_ops.specs.Grouping.{key_at}
use Rattle.fq_ops.proofs.groups.number_rows.Given as goal

abbrev pub invariant-loop-row : goal.invariant-loop-row
invariant-loop-row l = record {
  size : length l.key.cells ≡ length l.places;
  form : l.key.is_whole ≡ l.seen.is_whole;
  whole : l.seen.is_whole ≡ l.fn.seen.is_whole;
  seen : l.seen.keys ≡ insert_all same_key l.fn.seen.keys (map (key_at l.places) (take l.row l.batch.rows));
  numbers : l.numbers.items ≡ numbers_along l.fn.seen.keys (map (key_at l.places) (take l.row l.batch.rows));
  beside : length l.numbers.items ≡ l.row;
  within : All (λ n. n < length l.seen.keys) l.numbers.items;
  grown : length l.fn.seen.keys ≤ length l.seen.keys;
}
