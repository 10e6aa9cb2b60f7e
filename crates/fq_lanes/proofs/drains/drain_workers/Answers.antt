use Rattle.std.specs.Prelude.{if◌then◌else◌}
use Rattle.std.specs.List.{slice_get}
use Rattle.std.proofs.Common.{◌≡◌, arith, rules, ◌<◌, [], Some, length, refl, sym, subst, ap, ◌∙◌}
use Rattle.std.proofs.lemmas.List.{map-set}
use Rattle.std.proofs.Math.ListN.{length-set}
use Rattle.std.proofs.Math.Seq.{map-set_same}
use Rattle.fq_lanes.specs.WorkerLanes.{worker_name, worker_view, worker_views}
use Rattle.fq_lanes.specs.HubView.{any_refused, refused_between}
use Rattle.fq_lanes.proofs.LaneLemmas.{get_map, set_cases, workers_same, workers_then}
use Rattle.fq_lanes.proofs.DrainLemmas.{any-set, fault-next, none-of-all}
use Rattle.fq_lanes.specs.declared.faults.RunFault.TheVariants as run_fault
use Rattle.fq_lanes.proofs.BesideLemmas.{get_or_place, get_set_other}
use Rattle.fq_lanes.proofs.HubStepLemmas.{worker_grows}
use Rattle.fq_lanes.specs.Turns.{BlamesTold}
use Rattle.fq_lanes.proofs.drains.drain_workers.Goals as goal
use Rattle.fq_lanes.proofs.drains.drain_workers.Goals.{then-drain, else-drain}

pub loop-worker-init : goal.loop-worker-init
loop-worker-init g c = record { size = refl; names = refl; grows = workers_same (worker_views c.args.workers.now.items); blames = λ _ b. b; rest = λ j h. refl; idle = λ j d h at. absurd (omega (arith, h)); fault = sym (ap (λ t. if t then run_fault.Memory else c.args.fault) (none-of-all (worker_views c.args.workers.now.items))) }

pub loop-worker-preserved : goal.loop-worker-preserved
loop-worker-preserved g c =
    let ds = c.loop-worker.workers.items in
    let d = c.index_mut.result.now in
    let below : c.loop-worker.worker < length ds = search rules in
    let at = get_or_place ds c.loop-worker.worker d below c.index_mut.ensures.value in
    record {
      size = length-set ds c.loop-worker.worker c.drain.new.self ∙ c.loop-worker.invariant.size;
      names = map-set_same worker_name ds c.loop-worker.worker c.drain.new.self d (c.drain.ensures.name ∙ ap worker_name c.index_mut.ensures.value) ∙ c.loop-worker.invariant.names;
      grows = workers_then _ _ _ c.loop-worker.invariant.grows (worker_grows ds c.loop-worker.worker d c.drain.new.self at c.drain.ensures.grows);
      blames = λ messages b. elim c.if-drain.branch [ then-drain w ↦ subst (λ e. BlamesTold messages e) (sym w.first-is) tt | else-drain w ↦ subst (λ e. BlamesTold messages e) (sym w.first-is) (c.loop-worker.invariant.blames messages b) ];
      rest = λ j h. get_set_other ds c.loop-worker.worker j c.drain.new.self (λ e. omega (arith, h, e)) ∙ c.loop-worker.invariant.rest j (omega (arith, h));
      idle = λ j e h there. set_cases ds c.loop-worker.worker j c.drain.new.self e (e.outstanding.items ≡ []) there
          (λ same is. sym (ap (λ x. x.outstanding.items) is) ∙ c.drain.ensures.idle)
          (λ other old. c.loop-worker.invariant.idle j e (omega (arith, h, other)) old);
      fault =
          let olds = worker_views c.args.workers.now.items in
          let first : slice_get c.args.workers.now.items c.loop-worker.worker ≡ Some d = sym (c.loop-worker.invariant.rest c.loop-worker.worker (omega arith)) ∙ at in
          let all = ap (any_refused olds) (map-set worker_view ds c.loop-worker.worker c.drain.new.self)
          ∙ any-set olds (worker_views ds) c.loop-worker.worker (worker_view d) (worker_view c.drain.new.self) (get_map worker_view c.args.workers.now.items c.loop-worker.worker d first) (get_map worker_view ds c.loop-worker.worker d at) in
          let next : c.if-drain.first ≡ (if c.drain.result then run_fault.Memory else c.loop-worker.first) =
          elim c.if-drain.branch [ then-drain w ↦ rw w.if-drain.true w.first-is | else-drain w ↦ rw w.if-drain.false w.first-is ] in
          fault-next (any_refused olds (worker_views ds)) (refused_between (worker_view d) (worker_view c.drain.new.self)) c.loop-worker.first c.args.fault c.if-drain.first
          c.loop-worker.invariant.fault (next ∙ ap (λ t. if t then run_fault.Memory else c.loop-worker.first) c.drain.ensures.refused)
          ∙ sym (ap (λ t. if t then run_fault.Memory else c.args.fault) all);
    }
