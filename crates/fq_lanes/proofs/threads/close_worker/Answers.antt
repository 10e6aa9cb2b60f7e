use Rattle.std.proofs.Common.{◌≡◌, [], ◌∷◌, ◌++◌, ap, map, sym, subst, ◌∙◌}
use Rattle.std.proofs.lemmas.List.{map-append}
use Rattle.fq_lanes.specs.Lane.{put_items, taken_items, left_items, take_name}
use Rattle.fq_lanes.specs.WorkerLanes.{worker_name, worker_names}
use Rattle.fq_lanes.specs.WorkerThread.{Replied}
use Rattle.fq_lanes.specs.declared.messages.ToWorker.TheVariants.{Stop}
use Rattle.fq_lanes.proofs.ThreadLemmas.{snoc_both}
use Rattle.fq_lanes.proofs.WorkerThreadLemmas.{replied_ahead, replied_before, replied_unstopped}
use Rattle.fq_lanes.proofs.threads.close_worker.Goals as goal

pub rejoin-requires : goal.rejoin-requires
rejoin-requires g c =
    let split = snoc_both (worker_names c.pop.new.self.items) c.requires.0 (worker_name c.in-Some.worker) _
    (sym (map-append worker_name c.pop.new.self.items (c.in-Some.worker ∷ [])) ∙ ap (map worker_name) (sym c.in-Some.ensures.items) ∙ c.requires.1) in
    c.stop-jobs.ensures.jobs ∙ ap (λ n. n.0) split.1 ∙ sym c.join-their_jobs.ensures.0

pub rejoin-requires-2 : goal.rejoin-requires-2
rejoin-requires-2 g c =
    let split = snoc_both (worker_names c.pop.new.self.items) c.requires.0 (worker_name c.in-Some.worker) _
    (sym (map-append worker_name c.pop.new.self.items (c.in-Some.worker ∷ [])) ∙ ap (map worker_name) (sym c.in-Some.ensures.items) ∙ c.requires.1) in
    c.join-their_jobs.ensures.1 ∙ sym (ap take_name c.stop-jobs.ensures.answers ∙ ap (λ n. n.1) split.1)

pub returns-clause-names : goal.returns-clause-names
returns-clause-names g c names e =
    (snoc_both (worker_names c.pop.new.self.items) names (worker_name c.in-Some.worker) _
    (sym (map-append worker_name c.pop.new.self.items (c.in-Some.worker ∷ [])) ∙ ap (map worker_name) (sym c.in-Some.ensures.items) ∙ e)).0

pub returns-clause-last : goal.returns-clause-last
returns-clause-last g c =
    let gives = g.W.Work.gives c.args.child.promise.work.value in
    let theirs = c.join-their_jobs.result in
    let os = put_items c.in-Some.worker.jobs in
    let rs = taken_items c.in-Some.worker.answers in
    let stopped = ap taken_items c.stop-jobs.ensures.answers in
    let all : taken_items theirs.0 ++ left_items c.rejoin.result ≡ os ++ Stop ∷ [] = c.rejoin.ensures ∙ c.stop-jobs.ensures.stopped in
    let ahead = subst (λ zs. Replied gives zs (put_items theirs.1)) all (replied_ahead gives (taken_items theirs.0) (left_items c.rejoin.result) (put_items theirs.1) c.join-their_jobs.ensures.2) in
    let mid = replied_before gives (os ++ Stop ∷ []) rs (left_items c.rejoin-2.result) (subst (λ zs. Replied gives (os ++ Stop ∷ []) zs) (sym (ap (λ zs. zs ++ left_items c.rejoin-2.result) (sym stopped) ∙ c.rejoin-2.ensures)) ahead) in (
      c.in-Some.worker,
      c.in-Some.ensures.items,
      replied_unstopped gives os rs mid,
    )
