use Rattle.fq_lanes.specs.FeedLane.{feed_views}
use Rattle.fq_lanes.proofs.turns.take_turn.Goals as goal

pub poll_feeds-requires-clause-turn : goal.poll_feeds-requires-clause-turn
poll_feeds-requires-clause-turn g c =
    let r = c.requires.turn in
    let now = c.loop-worker.invariant.turn r.0 r.1 r.2 in
    (r.0, now.0, now.1)

pub poll_worker-requires-clause-turn : goal.poll_worker-requires-clause-turn
poll_worker-requires-clause-turn g c =
    let r = c.requires.turn in
    let now = c.loop-worker.invariant.turn r.0 r.1 r.2 in
    let fed = c.in_ok-of_feeds.ensures.turn r.0 now.0 now.1 in
    (r.0, feed_views c.poll_feeds.new.lanes.items, fed.0, fed.1)
