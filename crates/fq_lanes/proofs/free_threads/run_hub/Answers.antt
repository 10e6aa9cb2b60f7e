use Rattle.std.proofs.Common.{◌≡◌, [], length, sym, subst, ◌∙◌}
use Rattle.std.proofs.lemmas.List.{length-map}
use Rattle.fq_lanes.specs.WorkerLanes.{worker_views}
use Rattle.fq_lanes.specs.FeedLane.{feed_views, feed_view}
use Rattle.fq_lanes.specs.HubView.{told_in}
use Rattle.fq_lanes.specs.Turns.{Settled, Halts}
use Rattle.fq_lanes.proofs.BeginLemmas.{turn_begins, halts_on}
use Rattle.fq_lanes.proofs.HubStepLemmas.{tolds_feed_views}
use Rattle.fq_lanes.proofs.TurnLemmas.{sizes}
use Rattle.fq_lanes.proofs.free_threads.run_hub.Goals as goal

pub run_turns-requires-clause-turn : goal.run_turns-requires-clause-turn
run_turns-requires-clause-turn g c =
    (c.args.hub.now.tail, [], turn_begins g.S.Tail.takes c.args.lanes.now.items c.args.workers.now.items c.args.hub.now c.requires.lanes c.requires.workers c.requires.files c.requires.accepted c.requires.trace)

pub returns-in-Ok-clause-done : goal.returns-in-Ok-clause-done
returns-in-Ok-clause-done g c =
    let begins = turn_begins g.S.Tail.takes c.args.lanes.now.items c.args.workers.now.items c.args.hub.now c.requires.lanes c.requires.workers c.requires.files c.requires.accepted c.requires.trace in
    let done = c.in-Ok.ensures.done c.args.hub.now.tail [] begins in
    (done.0, subst (λ l. Settled g.S.Tail.takes c.args.hub.now.tail l (worker_views c.run_turns.new.workers.items) c.run_turns.new.hub done.0) (tolds_feed_views c.run_turns.new.lanes.items) done.1)

pub returns-in-Err-clause-done : goal.returns-in-Err-clause-done
returns-in-Err-clause-done g c =
    let begins = turn_begins g.S.Tail.takes c.args.lanes.now.items c.args.workers.now.items c.args.hub.now c.requires.lanes c.requires.workers c.requires.files c.requires.accepted c.requires.trace in
    let halts = c.in-Err.ensures.done c.args.hub.now.tail [] begins in
    let ns = c.run_turns.new.lanes.items in
    let ns' = c.drain_all.new.lanes.items in
    let size : length (told_in (feed_views ns')) ≡ length (told_in (feed_views ns)) =
    (sizes (feed_views ns')).0 ∙ length-map ns' feed_view ∙ c.drain_all.ensures.size ∙ sym (length-map ns feed_view) ∙ sym (sizes (feed_views ns)).0 in
    subst (λ l. Halts g.S.Tail.takes g.S.Tail.refuses c.args.hub.now.tail l (worker_views c.drain_all.new.workers.items) c.run_turns.new.hub.tail c.drain_all.result) (tolds_feed_views ns')
    (halts_on g.S.Tail.takes g.S.Tail.refuses c.args.hub.now.tail (told_in (feed_views ns)) (told_in (feed_views ns')) (worker_views c.run_turns.new.workers.items) (worker_views c.drain_all.new.workers.items)
    c.run_turns.new.hub.tail c.in-Err.fault c.drain_all.result size c.drain_all.ensures.told c.drain_all.ensures.answered c.drain_all.ensures.blames c.drain_all.ensures.precedes halts)
