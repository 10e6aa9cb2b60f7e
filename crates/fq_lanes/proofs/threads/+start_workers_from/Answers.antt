use Rattle.std.proofs.Common.{[], ◌∷◌, ◌++◌, map, sym, subst, ap, ◌∙◌}
use Rattle.fq_lanes.specs.FeedLane.{tolds_of}
use Rattle.std.proofs.lemmas.List.{append-nil, map-append}
use Rattle.std.proofs.lemmas.Result.{on_ok_weaker}
use Rattle.fq_lanes.specs.Lane.{put_items, taken_items}
use Rattle.fq_lanes.specs.WorkerThread.{Replied}
use Rattle.fq_lanes.specs.WorkerLanes.{AreNewWorkers, worker_views, worker_name, worker_names, worker_view}
use Rattle.fq_lanes.proofs.ThreadLemmas.{list_moves, new_workers_push}
use Rattle.fq_lanes.proofs.threads.+start_workers_from.Goals as goal

pub returns-then-from-crew-clause-done : goal.returns-then-from-crew-clause-done
returns-then-from-crew-clause-done g t c =
    ([], tt, subst (λ ds. g.H.Core.done c.args.hub.now (tolds_of c.run.new.lanes.items) ds c.run.new.self) (sym (append-nil (worker_views c.run.new.workers.items))) c.run.ensures.done)

pub start_workers_from-outcome-requires-clause-workers : goal.start_workers_from-outcome-requires-clause-workers
start_workers_from-outcome-requires-clause-workers g t c κs within =
    let started = c.in-Ok.ensures.started in
    subst (λ l. AreNewWorkers l) (sym started.1) (new_workers_push c.args.workers.now.items started.0 c.requires.workers started.2)

pub close_worker-requires : goal.close_worker-requires
close_worker-requires g t c =
    let started = c.in-Ok.ensures.started in (
      worker_names c.args.workers.now.items,
      c.start_workers_from-outcome.ensures.workers ∙ ap (map worker_name) started.1 ∙ map-append worker_name c.args.workers.now.items (started.0 ∷ [])
          ∙ ap (λ n. worker_names c.args.workers.now.items ++ n ∷ []) started.4,
    )

pub returns-clause-done : goal.returns-clause-done
returns-clause-done g t c =
    let last = c.close_worker.ensures.last in
    let here : Replied (g.W.Work.gives c.args.crew.now.work.now) (put_items last.0.jobs) (taken_items last.0.answers) = subst (λ w. Replied (g.W.Work.gives w) (put_items last.0.jobs) (taken_items last.0.answers)) c.in-Ok.ensures.started.3 last.2 in
    on_ok_weaker c.start_workers_from-outcome.result
    (λ i. (
      worker_view last.0 ∷ i.0,
      (here, i.1),
      subst (λ ds. g.H.Core.done c.args.hub.now (tolds_of c.start_workers_from-outcome.new.lanes.items) ds c.start_workers_from-outcome.new.hub) (list_moves worker_view _ _ last.0 i.0 last.1) i.2,
    ))
    c.start_workers_from-outcome.ensures.done
