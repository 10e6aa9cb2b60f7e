use Rattle.std.specs.Prelude.{if◌then◌else◌}
use Rattle.std.specs.List.{slice_get}
use Rattle.std.proofs.Common.{◌≡◌, ◌≤◌, ◌<◌, ℕ, List, [], Some, length}
use Rattle.fq_lanes.specs.WorkerLanes.{worker_names, worker_views}
use Rattle.fq_lanes.specs.HubView.{Grows, WorkerGrows, any_refused}
use Rattle.fq_lanes.specs.Turns.{BlamesTold}
use Rattle.fq_lanes.specs.declared.faults.RunFault.TheVariants as run_fault
use Rattle.fq_lanes.specs.declared.messages.FromFeed.{FromFeed}
use Rattle.fq_lanes.specs.declared.worker_lanes.WorkerLanes.{WorkerLanes}
use Rattle.fq_lanes.proofs.drains.drain_workers.Given as goal

abbrev pub invariant-loop-worker : goal.invariant-loop-worker
invariant-loop-worker g l = record {
  size : length l.workers.items ≡ length l.initial.workers.items;
  names : worker_names l.workers.items ≡ worker_names l.initial.workers.items;
  grows : Grows WorkerGrows (worker_views l.initial.workers.items) (worker_views l.workers.items);
  blames : (messages : List (List (FromFeed g.row.X.Denot))) → BlamesTold messages l.initial.first → BlamesTold messages l.first;
  rest : (j : ℕ) → l.worker ≤ j → slice_get l.workers.items j ≡ slice_get l.initial.workers.items j;
  idle : (j : ℕ) (d : WorkerLanes g.row.X.Denot g.row.O.Denot) → j < l.worker → slice_get l.workers.items j ≡ Some d → d.outstanding.items ≡ [];
  fault : l.first ≡ (if any_refused (worker_views l.initial.workers.items) (worker_views l.workers.items) then run_fault.Memory else l.initial.first);
}
