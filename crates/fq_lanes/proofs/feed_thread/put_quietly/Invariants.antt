use Rattle.std.proofs.Common.{◌≡◌}
use Rattle.fq_lanes.specs.Lane.{put_items, SamePut}
use Rattle.fq_lanes.proofs.feed_thread.put_quietly.Given as goal

abbrev pub invariant-loop : goal.invariant-loop
invariant-loop g l = record {
  same : SamePut l.initial.put l.put;
  put : put_items l.put ≡ put_items l.initial.put;
  item : l.item ≡ l.initial.item;
}
