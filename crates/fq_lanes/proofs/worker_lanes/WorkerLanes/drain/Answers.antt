use Rattle.std.specs.Prelude.{is_err}
use Rattle.fq_lanes.specs.WorkerLanes.{worker_view}
use Rattle.std.proofs.Common.{◌∙◌, ap, refl, sym}
use Rattle.fq_lanes.proofs.DrainLemmas.{between-err, between-ok, between-same, none-between}
use Rattle.fq_lanes.proofs.LaneLemmas.{worker_same, worker_then, worker_received}
use Rattle.fq_lanes.proofs.worker_lanes.WorkerLanes.drain.Goals as goal
use Rattle.fq_lanes.proofs.worker_lanes.WorkerLanes.drain.Goals.{in-Some-default-Err, in-Some-default-Ok, in-None-receive}

pub loop-init : goal.loop-init
loop-init g c = record { name = refl; grows = worker_same (worker_view c.args.self.now); refused = sym (none-between (worker_view c.args.self.now)) }

pub loop-preserved : goal.loop-preserved
loop-preserved g c = record {
  name = c.receive.ensures.name ∙ c.loop.invariant.name;
  grows = worker_then (worker_view c.args.self.now) (worker_view c.loop.self) (worker_view c.receive.new.self) c.loop.invariant.grows
      (worker_received c.receive.result (worker_view c.loop.self) (worker_view c.receive.new.self) c.receive.ensures.jobs c.receive.ensures.taken);
  refused =
      let first = worker_view c.args.self.now in
      let before = worker_view c.loop.self in
      let after = worker_view c.receive.new.self in
      elim c.match-receive.branch [
        | in-Some-default-Err w ↦ (let t = rw w.in-Some-default-Err.is at c.receive.ensures.taken in w.refused-is ∙ between-err first before after _ c.loop.invariant.grows.1 t.0 (ap is_err w.in-Some-default-Err.field-0-1-is))
        | in-Some-default-Ok w ↦ (let t = rw w.in-Some-default-Ok.is at c.receive.ensures.taken in w.refused-is ∙ c.loop.invariant.refused ∙ between-ok first before after _ c.loop.invariant.grows.1 t.0 (ap is_err w.in-Some-default-Ok.field-0-1-is))
        | in-None-receive w ↦ (let t = rw w.in-None-receive.is at c.receive.ensures.taken in w.refused-is ∙ c.loop.invariant.refused ∙ sym (between-same first before after t.0))
      ];
}
