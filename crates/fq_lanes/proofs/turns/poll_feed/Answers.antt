use Rattle.std.proofs.Common.{List, length, [], ◌∷◌, ◌++◌, set, refl, sym, subst, ap, ◌∙◌, arith}
use Rattle.std.proofs.Math.Seq.{map-set_same}
use Rattle.std.proofs.lemmas.Option.{slice_get_within}
use Rattle.fq_lanes.specs.WorkerLanes.{worker_name, worker_view, worker_views}
use Rattle.fq_lanes.specs.Due.{due, due_count}
use Rattle.fq_lanes.specs.FeedLane.{feed_name, feed_view, feed_views}
use Rattle.fq_lanes.specs.Sink.{file_count}
use Rattle.fq_lanes.specs.HubView.{told_in}
use Rattle.fq_lanes.specs.Turns.{BlamesTold, PrecedesTold}
use Rattle.fq_lanes.specs.FileWindow.{IsNear}
use Rattle.fq_lanes.specs.declared.events.Event.{Event}
use Rattle.fq_lanes.specs.declared.events.Event.TheVariants.{Close}
use Rattle.fq_lanes.specs.declared.job.Job.{Job}
use Rattle.fq_lanes.specs.declared.messages.FromFeed.TheVariants.{Item}
use Rattle.fq_lanes.proofs.LaneLemmas.{prefix_by, prefix_is, workers_same}
use Rattle.fq_lanes.proofs.BesideLemmas.{get_or_place}
use Rattle.fq_lanes.proofs.SlotLemmas.{not_far}
use Rattle.fq_lanes.proofs.HubStepLemmas.{step_nothing, step_item, step_halts, worker_grows, step_blames, step_close, step_on, step_stops, lane_precedes}
use Rattle.fq_lanes.proofs.turns.poll_feed.Goals as goal

pub close-requires : goal.close-requires
close-requires g c =
    let ns = c.args.lanes.now.items in
    let n = c.index_mut-lane.result.now in
    let at = get_or_place ns c.args.file n (omega (arith, c.requires.file)) c.index_mut-lane.ensures.value in
    let r = c.requires.turn in
    let out = step_close g.S.Tail.takes r.0 ns (worker_views c.args.workers.now.items) c.args.hub.now r.1 c.args.file c.in-End.items n c.next.new.self r.2 at c.in-End.ensures.polled in
    (r.1, _, r.2.handed.accepted, out.0)

pub returns-in-Nothing-clause-lanes : goal.returns-in-Nothing-clause-lanes
returns-in-Nothing-clause-lanes g c =
    map-set_same feed_name c.args.lanes.now.items c.args.file c.next.new.self c.index_mut-lane.result.now (c.next.ensures.name ∙ ap feed_name c.index_mut-lane.ensures.value)

pub returns-in-Nothing-clause-turn : goal.returns-in-Nothing-clause-turn
returns-in-Nothing-clause-turn g c first events t =
    let ns = c.args.lanes.now.items in
    let n = c.index_mut-lane.result.now in
    let at = get_or_place ns c.args.file n (omega (arith, c.requires.file)) c.index_mut-lane.ensures.value in
    (events, step_nothing g.S.Tail.takes first ns (worker_views c.args.workers.now.items) c.args.hub.now events c.args.file n c.next.new.self t at c.in-Nothing.ensures.polled)

pub returns-in-Ok-clause-lanes : goal.returns-in-Ok-clause-lanes
returns-in-Ok-clause-lanes g c =
    map-set_same feed_name c.args.lanes.now.items c.args.file c.next.new.self c.index_mut-lane.result.now (c.next.ensures.name ∙ ap feed_name c.index_mut-lane.ensures.value)

pub returns-in-Ok-clause-workers : goal.returns-in-Ok-clause-workers
returns-in-Ok-clause-workers g c =
    map-set_same worker_name c.args.workers.now.items c.args.worker c.give.new.self c.index_mut.result.now (c.give.ensures.name ∙ ap worker_name c.index_mut.ensures.value)

pub returns-in-Ok-clause-turn : goal.returns-in-Ok-clause-turn
returns-in-Ok-clause-turn g c first events t =
    let ns = c.args.lanes.now.items in
    let n = c.index_mut-lane.result.now in
    let at = get_or_place ns c.args.file n (omega (arith, c.requires.file)) c.index_mut-lane.ensures.value in
    let ds = c.args.workers.now.items in
    let d = c.index_mut.result.now in
    let atw = get_or_place ds c.args.worker d (slice_get_within c.args.workers.now.items c.args.worker c.requires.worker.0 c.requires.worker.1) c.index_mut.ensures.value in
    let job : Job g.row.X.Denot = record { file = c.args.file; serial = c.in-Item.serial; item = c.in-Item.item } in (
      events,
      step_item g.S.Tail.takes first ns ds c.args.hub.now events c.args.file c.in-Item.serial c.args.worker c.in-Item.item n c.next.new.self d c.give.new.self job t at c.in-Item.ensures.polled atw refl refl refl
          c.in-Ok.ensures.ok.0 c.give.ensures.answers c.in-Ok.ensures.ok.1
          (subst (λ k. IsNear events (file_count c.args.hub.now.sink) c.args.file k) (sym c.in-Item.ensures.polled.2)
          (not_far (due_count events (file_count c.args.hub.now.sink) c.args.file) n.items (sym (c.is_far.ensures events (length (due events (file_count c.args.hub.now.sink))) t.handed.accepted) ∙ c.if-is_far.false))),
    )

pub returns-in-Err-clause-lanes : goal.returns-in-Err-clause-lanes
returns-in-Err-clause-lanes g c =
    map-set_same feed_name c.args.lanes.now.items c.args.file c.next.new.self c.index_mut-lane.result.now (c.next.ensures.name ∙ ap feed_name c.index_mut-lane.ensures.value)

pub returns-in-Err-clause-workers : goal.returns-in-Err-clause-workers
returns-in-Err-clause-workers g c =
    map-set_same worker_name c.args.workers.now.items c.args.worker c.give.new.self c.index_mut.result.now (c.give.ensures.name ∙ ap worker_name c.index_mut.ensures.value)

pub returns-in-Err-clause-turn : goal.returns-in-Err-clause-turn
returns-in-Err-clause-turn g c first events t =
    let ns = c.args.lanes.now.items in
    let n = c.index_mut-lane.result.now in
    let at = get_or_place ns c.args.file n (omega (arith, c.requires.file)) c.index_mut-lane.ensures.value in
    let ds = c.args.workers.now.items in
    let d = c.index_mut.result.now in
    let atw = get_or_place ds c.args.worker d (slice_get_within c.args.workers.now.items c.args.worker c.requires.worker.0 c.requires.worker.1) c.index_mut.ensures.value in
    let more = prefix_by (feed_view n).told (feed_view c.next.new.self).told (Item c.in-Item.item ∷ []) c.in-Item.ensures.polled.1 in
    let grow = worker_grows ds c.args.worker d c.give.new.self atw (prefix_is (worker_view d).jobs (worker_view c.give.new.self).jobs c.in-Err.ensures.err, prefix_is (worker_view d).answers (worker_view c.give.new.self).answers c.give.ensures.answers) in
    ((events, step_halts g.S.Tail.takes g.S.Tail.refuses first ns (worker_views ds) (worker_views (set ds c.args.worker c.give.new.self)) c.args.hub.now events c.args.file n c.next.new.self t at more grow), tt, λ j told e there end. tt)

pub returns-in-Ok-close-clause-lanes : goal.returns-in-Ok-close-clause-lanes
returns-in-Ok-close-clause-lanes g c =
    map-set_same feed_name c.args.lanes.now.items c.args.file c.next.new.self c.index_mut-lane.result.now (c.next.ensures.name ∙ ap feed_name c.index_mut-lane.ensures.value)

pub returns-in-Ok-close-clause-turn : goal.returns-in-Ok-close-clause-turn
returns-in-Ok-close-clause-turn g c first events t =
    let ns = c.args.lanes.now.items in
    let n = c.index_mut-lane.result.now in
    let at = get_or_place ns c.args.file n (omega (arith, c.requires.file)) c.index_mut-lane.ensures.value in
    let ds = worker_views c.args.workers.now.items in
    let out = step_close g.S.Tail.takes first ns ds c.args.hub.now events c.args.file c.in-End.items n c.next.new.self t at c.in-End.ensures.polled in
    let now : List (Event g.row.S-Out.Denot) = events ++ Close c.args.file c.in-End.items ∷ [] in
    (now, step_on g.S.Tail.takes first (feed_views (set ns c.args.file c.next.new.self)) ds c.args.hub.now c.close.new.self events (Close c.args.file c.in-End.items) out.1 (c.in-Ok-close.ensures.handed first events t.handed out.0) c.close.ensures.files out.2 out.3)

pub returns-in-Err-close-clause-lanes : goal.returns-in-Err-close-clause-lanes
returns-in-Err-close-clause-lanes g c =
    map-set_same feed_name c.args.lanes.now.items c.args.file c.next.new.self c.index_mut-lane.result.now (c.next.ensures.name ∙ ap feed_name c.index_mut-lane.ensures.value)

pub returns-in-Err-close-clause-turn : goal.returns-in-Err-close-clause-turn
returns-in-Err-close-clause-turn g c first events t =
    let ns = c.args.lanes.now.items in
    let n = c.index_mut-lane.result.now in
    let at = get_or_place ns c.args.file n (omega (arith, c.requires.file)) c.index_mut-lane.ensures.value in
    let ds = worker_views c.args.workers.now.items in
    let out = step_close g.S.Tail.takes first ns ds c.args.hub.now events c.args.file c.in-End.items n c.next.new.self t at c.in-End.ensures.polled in
    let now : List (Event g.row.S-Out.Denot) = events ++ Close c.args.file c.in-End.items ∷ [] in
    ((now, step_stops g.S.Tail.takes g.S.Tail.refuses first (feed_views (set ns c.args.file c.next.new.self)) ds c.args.hub.now c.close.new.self.tail now out.1 (c.in-Err-close.ensures.handed first events t.handed out.0) out.2), tt, λ j told e there end. tt)

pub returns-in-TooMany-clause-lanes : goal.returns-in-TooMany-clause-lanes
returns-in-TooMany-clause-lanes g c =
    map-set_same feed_name c.args.lanes.now.items c.args.file c.next.new.self c.index_mut-lane.result.now (c.next.ensures.name ∙ ap feed_name c.index_mut-lane.ensures.value)

pub returns-in-TooMany-clause-turn : goal.returns-in-TooMany-clause-turn
returns-in-TooMany-clause-turn g c first events t =
    let ns = c.args.lanes.now.items in
    let n = c.index_mut-lane.result.now in
    let at = get_or_place ns c.args.file n (omega (arith, c.requires.file)) c.index_mut-lane.ensures.value in
    let ds = worker_views c.args.workers.now.items in
    ((events, step_halts g.S.Tail.takes g.S.Tail.refuses first ns ds ds c.args.hub.now events c.args.file n c.next.new.self t at c.in-TooMany.ensures.polled (workers_same ds)), tt, λ j told e there end. tt)

pub returns-in-Fault-clause-lanes : goal.returns-in-Fault-clause-lanes
returns-in-Fault-clause-lanes g c =
    map-set_same feed_name c.args.lanes.now.items c.args.file c.next.new.self c.index_mut-lane.result.now (c.next.ensures.name ∙ ap feed_name c.index_mut-lane.ensures.value)

pub returns-in-Fault-clause-turn : goal.returns-in-Fault-clause-turn
returns-in-Fault-clause-turn g c first events t =
    let ns = c.args.lanes.now.items in
    let n = c.index_mut-lane.result.now in
    let at = get_or_place ns c.args.file n (omega (arith, c.requires.file)) c.index_mut-lane.ensures.value in
    let ds = worker_views c.args.workers.now.items in
    let more = prefix_by (feed_view n).told (feed_view c.next.new.self).told _ c.in-Fault.ensures.polled in (
      (events, step_halts g.S.Tail.takes g.S.Tail.refuses first ns ds ds c.args.hub.now events c.args.file n c.next.new.self t at more (workers_same ds)),
      subst (λ e. BlamesTold (told_in (feed_views (set ns c.args.file c.next.new.self))) e) (sym c.feed_fault.ensures)
          (step_blames ns c.args.file n c.next.new.self c.in-Fault.fault at c.in-Fault.ensures.polled),
      subst (λ e. PrecedesTold (told_in (feed_views (set ns c.args.file c.next.new.self))) e) (sym c.feed_fault.ensures)
          (lane_precedes ns ds events c.args.file n c.next.new.self c.in-Fault.fault t.known at c.in-Fault.ensures.polled),
    )

pub returns-then-is_far-clause-turn : goal.returns-then-is_far-clause-turn
returns-then-is_far-clause-turn g c first events t =
    let ns = c.args.lanes.now.items in
    let n = c.index_mut-lane.result.now in
    let at = get_or_place ns c.args.file n (omega (arith, c.requires.file)) c.index_mut-lane.ensures.value in
    (events, step_nothing g.S.Tail.takes first ns (worker_views c.args.workers.now.items) c.args.hub.now events c.args.file n n t at refl)
