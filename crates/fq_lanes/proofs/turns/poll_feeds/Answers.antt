use Rattle.fq_lanes.proofs.turns.poll_feeds.Goals as goal

pub poll_feed-requires-clause-turn : goal.poll_feed-requires-clause-turn
poll_feed-requires-clause-turn g c =
    let r = c.requires.turn in
    let now = c.loop-file.invariant.turn r.0 r.1 r.2 in
    (r.0, now.0, now.1)
