use Rattle.std.proofs.Common.{List, [], ◌∷◌, ◌++◌, set, ap, ◌∙◌, arith}
use Rattle.std.proofs.Math.Seq.{map-set_same}
use Rattle.fq_lanes.specs.WorkerLanes.{worker_name, worker_view, worker_views}
use Rattle.fq_lanes.specs.declared.events.Event.{Event}
use Rattle.fq_lanes.specs.declared.events.Event.TheVariants.{Offer}
use Rattle.fq_lanes.proofs.LaneLemmas.{worker_received}
use Rattle.fq_lanes.proofs.BesideLemmas.{get_or_place}
use Rattle.fq_lanes.proofs.HubStepLemmas.{worker_grows, step_on, step_stops, step_idle, step_offer, step_fails}
use Rattle.fq_lanes.proofs.turns.poll_worker.Goals as goal

pub offer-requires : goal.offer-requires
offer-requires g c =
    let ds = c.args.workers.now.items in
    let d = c.index_mut.result.now in
    let at = get_or_place ds c.args.worker d (omega (arith, c.requires.worker)) c.index_mut.ensures.value in
    let got = rw c.in-Some-default-Ok.field-0-1-is at c.in-Some-default-Ok.ensures.taken in
    let r = c.requires.turn in
    let out = step_offer g.S.Tail.takes r.0 r.1 ds c.args.hub.now r.2 c.args.worker (c.in-Some-default-Ok.file, c.in-Some-default-Ok.serial) c.in-Some-default-Ok.out d c.receive.new.self r.3 at c.receive.ensures.jobs got.0 got.1 in
    (r.2, _, r.3.handed.accepted, out.0)

pub returns-in-None-clause-workers : goal.returns-in-None-clause-workers
returns-in-None-clause-workers g c =
    map-set_same worker_name c.args.workers.now.items c.args.worker c.receive.new.self c.index_mut.result.now (c.receive.ensures.name ∙ ap worker_name c.index_mut.ensures.value)

pub returns-in-None-clause-turn : goal.returns-in-None-clause-turn
returns-in-None-clause-turn g c first vs events t =
    let ds = c.args.workers.now.items in
    let d = c.index_mut.result.now in
    let at = get_or_place ds c.args.worker d (omega (arith, c.requires.worker)) c.index_mut.ensures.value in
    (events, step_idle g.S.Tail.takes first vs ds c.args.hub.now events c.args.worker d c.receive.new.self t at c.receive.ensures.jobs c.in-None.ensures.taken.0 c.in-None.ensures.taken.1)

pub returns-in-Ok-clause-workers : goal.returns-in-Ok-clause-workers
returns-in-Ok-clause-workers g c =
    map-set_same worker_name c.args.workers.now.items c.args.worker c.receive.new.self c.index_mut.result.now (c.receive.ensures.name ∙ ap worker_name c.index_mut.ensures.value)

pub returns-in-Ok-clause-turn : goal.returns-in-Ok-clause-turn
returns-in-Ok-clause-turn g c first vs events t =
    let ds = c.args.workers.now.items in
    let d = c.index_mut.result.now in
    let at = get_or_place ds c.args.worker d (omega (arith, c.requires.worker)) c.index_mut.ensures.value in
    let got = rw c.in-Some-default-Ok.field-0-1-is at c.in-Some-default-Ok.ensures.taken in
    let out = step_offer g.S.Tail.takes first vs ds c.args.hub.now events c.args.worker (c.in-Some-default-Ok.file, c.in-Some-default-Ok.serial) c.in-Some-default-Ok.out d c.receive.new.self t at c.receive.ensures.jobs got.0 got.1 in
    let now : List (Event g.row.S-Out.Denot) = events ++ Offer c.in-Some-default-Ok.file c.in-Some-default-Ok.serial c.in-Some-default-Ok.out ∷ [] in
    (now, step_on g.S.Tail.takes first vs (worker_views (set ds c.args.worker c.receive.new.self)) c.args.hub.now c.offer.new.self events (Offer c.in-Some-default-Ok.file c.in-Some-default-Ok.serial c.in-Some-default-Ok.out) out.1 (c.in-Ok.ensures.handed first events t.handed out.0) c.offer.ensures.files t.files out.2)

pub returns-in-Err-clause-workers : goal.returns-in-Err-clause-workers
returns-in-Err-clause-workers g c =
    map-set_same worker_name c.args.workers.now.items c.args.worker c.receive.new.self c.index_mut.result.now (c.receive.ensures.name ∙ ap worker_name c.index_mut.ensures.value)

pub returns-in-Err-clause-turn : goal.returns-in-Err-clause-turn
returns-in-Err-clause-turn g c first vs events t =
    let ds = c.args.workers.now.items in
    let d = c.index_mut.result.now in
    let at = get_or_place ds c.args.worker d (omega (arith, c.requires.worker)) c.index_mut.ensures.value in
    let got = rw c.in-Some-default-Ok.field-0-1-is at c.in-Some-default-Ok.ensures.taken in
    let out = step_offer g.S.Tail.takes first vs ds c.args.hub.now events c.args.worker (c.in-Some-default-Ok.file, c.in-Some-default-Ok.serial) c.in-Some-default-Ok.out d c.receive.new.self t at c.receive.ensures.jobs got.0 got.1 in
    let now : List (Event g.row.S-Out.Denot) = events ++ Offer c.in-Some-default-Ok.file c.in-Some-default-Ok.serial c.in-Some-default-Ok.out ∷ [] in
    ((now, step_stops g.S.Tail.takes g.S.Tail.refuses first vs (worker_views (set ds c.args.worker c.receive.new.self)) c.args.hub.now c.offer.new.self.tail now out.1 (c.in-Err.ensures.handed first events t.handed out.0) t.files), tt, λ j told e there end. tt)

pub returns-in-Some-default-Err-clause-workers : goal.returns-in-Some-default-Err-clause-workers
returns-in-Some-default-Err-clause-workers g c =
    map-set_same worker_name c.args.workers.now.items c.args.worker c.receive.new.self c.index_mut.result.now (c.receive.ensures.name ∙ ap worker_name c.index_mut.ensures.value)

pub returns-in-Some-default-Err-clause-turn : goal.returns-in-Some-default-Err-clause-turn
returns-in-Some-default-Err-clause-turn g c first vs events t =
    let ds = c.args.workers.now.items in
    let d = c.index_mut.result.now in
    let at = get_or_place ds c.args.worker d (omega (arith, c.requires.worker)) c.index_mut.ensures.value in
    let grow = worker_grows ds c.args.worker d c.receive.new.self at (worker_received c.receive.result (worker_view d) (worker_view c.receive.new.self) c.receive.ensures.jobs c.receive.ensures.taken) in
    ((events, step_fails g.S.Tail.takes g.S.Tail.refuses first vs (worker_views ds) (worker_views (set ds c.args.worker c.receive.new.self)) c.args.hub.now events t grow), tt, λ j told e there end. tt)
