use Rattle.std.proofs.Common.{◌≡◌, List, length}
use Rattle.fq_lanes.specs.WorkerLanes.{worker_names, worker_views}
use Rattle.fq_lanes.specs.FeedLane.{feed_names, feed_views}
use Rattle.fq_lanes.specs.Turns.{InTurn}
use Rattle.fq_lanes.specs.declared.events.Event.{Event}
use Rattle.fq_lanes.proofs.turns.take_turn.Given as goal

abbrev pub invariant-loop-worker : goal.invariant-loop-worker
invariant-loop-worker g l = record {
  lane_count : length l.lanes.items ≡ length l.initial.lanes.items;
  worker_count : length l.workers.items ≡ length l.initial.workers.items;
  lanes : feed_names l.lanes.items ≡ feed_names l.initial.lanes.items;
  workers : worker_names l.workers.items ≡ worker_names l.initial.workers.items;
  turn : (first : g.row.S.Denot) (events : List (Event g.row.S-Out.Denot)) → InTurn g.S.Tail.takes first (feed_views l.initial.lanes.items) (worker_views l.initial.workers.items) l.initial.hub events
      → (events' : List (Event g.row.S-Out.Denot)) × InTurn g.S.Tail.takes first (feed_views l.lanes.items) (worker_views l.workers.items) l.hub events';
}
