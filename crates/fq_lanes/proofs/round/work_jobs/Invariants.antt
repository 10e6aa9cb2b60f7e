use Rattle.std.proofs.Common.{◌≡◌, ℕ, List, length}
use Rattle.std.specs.Vec.Iter.{into_iter_items}
use Rattle.fq_lanes.specs.Due.{close_at}
use Rattle.fq_lanes.specs.Hub.{HandedOn}
use Rattle.fq_lanes.specs.Ledger.{times, Books, OffersWorked}
use Rattle.fq_lanes.specs.Round.{AreItems, AreWorked, job_numbers, answer_numbers}
use Rattle.fq_lanes.specs.FileWindow.{AreNear}
use Rattle.fq_lanes.specs.Sink.{file_count}
use Rattle.fq_lanes.specs.declared.events.Event.{Event}
use Rattle.fq_lanes.proofs.round.work_jobs.Given as goal

abbrev pub invariant-loop-answer : goal.invariant-loop-answer
invariant-loop-answer g l = record {
  files : file_count l.hub.sink ≡ file_count l.initial.hub.sink;
  offers : (first : g.row.S.Denot) (items : List (List g.row.W-Item.Denot)) (events : List (Event g.row.W-Out.Denot)) → HandedOn g.S.Tail.takes first events l.initial.hub
      → Books items (λ f s. times f s (job_numbers l.fn.jobs.items)) events → OffersWorked (g.W.Work.gives l.fn.work) items events
      → AreItems items l.fn.jobs.items → file_count l.initial.hub.sink ≡ length items → AreNear events (file_count l.initial.hub.sink) (job_numbers l.fn.jobs.items)
      → (events' : List (Event g.row.W-Out.Denot)) × Books items (λ f s. times f s (answer_numbers (into_iter_items l.answer-iterator))) events'
      × OffersWorked (g.W.Work.gives l.fn.work) items events' × ((f : ℕ) → close_at events' f ≡ close_at events f)
      × AreWorked (g.W.Work.gives l.fn.work) items (into_iter_items l.answer-iterator) × HandedOn g.S.Tail.takes first events' l.hub
      × AreNear events' (length items) (answer_numbers (into_iter_items l.answer-iterator));
}
