-- What a contract sees of a worker: the hub's ends of a worker's two lanes.
use Rattle.std.specs.Prelude.{◌≡◌, List, [], ◌∷◌, map}
use Rattle.fq_lanes.specs.Lane.{Name, put_items, taken_items, put_name, take_name}
use Rattle.fq_lanes.specs.HubView.{WorkerView}
use Rattle.fq_lanes.specs.declared.worker_lanes.WorkerLanes.{WorkerLanes}

module _ {X O : Type 0} where
  abbrev pub worker_name : WorkerLanes X O → Name × Name
  worker_name d = (put_name d.jobs, take_name d.answers)

  abbrev pub worker_view : WorkerLanes X O → WorkerView X O
  worker_view d = record { jobs = put_items d.jobs; answers = taken_items d.answers; outstanding = d.outstanding.items }

  abbrev pub worker_names : List (WorkerLanes X O) → List (Name × Name)
  worker_names ds = map worker_name ds

  abbrev pub worker_views : List (WorkerLanes X O) → List (WorkerView X O)
  worker_views ds = map worker_view ds

  -- no job was given
  abbrev pub idle_worker : WorkerView X O
  idle_worker = record { jobs = []; answers = []; outstanding = [] }

  abbrev pub AreNewWorkers : List (WorkerLanes X O) → Type 0
  AreNewWorkers [] = Unit {0}
  AreNewWorkers (d ∷ ds) = (worker_view d ≡ idle_worker) × AreNewWorkers ds
