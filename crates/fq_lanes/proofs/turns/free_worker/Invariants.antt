use Rattle.std.specs.List.{slice_get}
use Rattle.std.proofs.Common.{◌≡◌, ◌≤◌, ◌<◌, ℕ, Some, length}
use Rattle.std.specs.Prelude.{MatchOption}
use Rattle.fq_lanes.specs.declared.worker_lanes.WorkerLanes.{WorkerLanes}
use Rattle.fq_lanes.proofs.turns.free_worker.Given as goal

abbrev pub invariant-loop-worker : goal.invariant-loop-worker
invariant-loop-worker g l = record {
  few : l.fewest ≤ 4;
  least : (j : ℕ) (e : WorkerLanes g.row.X.Denot g.row.O.Denot) → j < l.worker → slice_get l.workers.items j ≡ Some e → l.fewest ≤ length e.outstanding.items;
  free : MatchOption l.free (l.fewest ≡ 4) (λ w. (d : WorkerLanes g.row.X.Denot g.row.O.Denot) × (slice_get l.workers.items w ≡ Some d) × (length d.outstanding.items ≡ l.fewest)
      × (l.fewest < 4)
      × ((j : ℕ) (e : WorkerLanes g.row.X.Denot g.row.O.Denot) → j < w → slice_get l.workers.items j ≡ Some e → l.fewest < length e.outstanding.items));
}
