use Rattle.std.proofs.Common.{◌≡◌}
use Rattle.fq_lanes.specs.WorkerLanes.{worker_name, worker_view}
use Rattle.fq_lanes.specs.HubView.{WorkerGrows, refused_between}
use Rattle.fq_lanes.proofs.worker_lanes.WorkerLanes.drain.Given as goal

abbrev pub invariant-loop : goal.invariant-loop
invariant-loop g l = record {
  name : worker_name l.self ≡ worker_name l.initial.self;
  grows : WorkerGrows (worker_view l.initial.self) (worker_view l.self);
  refused : l.refused ≡ refused_between (worker_view l.initial.self) (worker_view l.self);
}
