use Rattle.std.proofs.Common.{◌≡◌, ◌≤◌, ◌++◌, map, length}
use Rattle.std.specs.Vec.{vec_capacity}
use Rattle.std.specs.Vec.Iter.{into_iter_items}
use Rattle.fq_lanes.specs.Inlet.{opened}
use Rattle.fq_lanes.proofs.rounds.open_inlets.Given as goal

abbrev pub invariant-loop-feed : goal.invariant-loop-feed
invariant-loop-feed g l = record {
  items : l.inlets.items ≡ map opened l.yielded;
  all : l.fn.feeds.items ≡ l.yielded ++ into_iter_items l.feed-iterator;
  room : length l.fn.feeds.items ≤ vec_capacity l.inlets;
}
