use Rattle.std.proofs.Common.{◌≡◌, length}
use Rattle.fq_lanes.specs.Lane.{put_items, taken_items, SamePut, SameTake}
use Rattle.fq_lanes.specs.WorkerThread.{Replied}
use Rattle.fq_lanes.proofs.worker_thread.run_worker.Given as goal

abbrev pub invariant-loop : goal.invariant-loop
invariant-loop g l = record {
  jobs : SameTake l.initial.jobs l.jobs;
  answers : SamePut l.initial.answers l.answers;
  replied : Replied (g.W.Work.gives l.work) (taken_items l.jobs) (put_items l.answers);
  even : length (taken_items l.jobs) ≡ length (put_items l.answers);
}
