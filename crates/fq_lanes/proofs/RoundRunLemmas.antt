-- From round to round, and to the end.
use Rattle.std.proofs.Common.{◌≡◌, ℕ, zero, suc, ◌+◌, List, [], ◌∷◌, length, refl, sym, subst, ap, ◌∙◌, arith, Some, None, true, cond}
use Rattle.std.specs.List.{slice_get}
use Rattle.fq_lanes.specs.Due.{due, offer_at, close_at}
use Rattle.fq_lanes.specs.Sink.{file_count}
use Rattle.fq_lanes.specs.Numbering.{item_at, numbered, numbers}
use Rattle.fq_lanes.specs.Engine.{Finishes, StopsEarly}
use Rattle.fq_lanes.specs.Hub.{HandedOn}
use Rattle.fq_lanes.specs.Inlet.{Gave}
use Rattle.fq_lanes.specs.Ledger.{times, Books, OffersWorked, Reads}
use Rattle.fq_lanes.specs.Round.{job_numbers, InRound, Halted}
use Rattle.fq_lanes.proofs.DueNumbers.{due_holds}
use Rattle.fq_lanes.proofs.InletLemmas.{gave_sizes, gave_all}
use Rattle.fq_lanes.proofs.BesideLemmas.{nothing_in}
use Rattle.fq_lanes.proofs.LedgerLemmas.{books_settle}
use Rattle.fq_lanes.proofs.NumberingLemmas.{items_all, all_numbered_map, each_worked, start_worked}
use Rattle.fq_lanes.specs.declared.events.Event.{Event}
use Rattle.fq_lanes.specs.declared.hub.Hub.{Hub}
use Rattle.fq_lanes.specs.declared.inlet.Inlet.{Inlet}
use Rattle.fq_lanes.specs.declared.job.Job.{Job}

module _ {F X : Type 0} where
  -- the inlet of a file with items
  gave_at : (gives : F → List X → Type 0) (is_open may_fail : F → Type 0) (most : F → ℕ) (fs : List F) (items : List (List X)) (ns : List (Inlet F)) (i : ℕ) (xs : List X)
      → Gave gives is_open may_fail most fs items ns → slice_get items i ≡ Some xs → (n : Inlet F) × (slice_get ns i ≡ Some n) × (n.items ≡ length xs)
  gave_at gives is_open may_fail most [] [] [] i xs h e = let bad : ⊥ = cc in absurd bad
  gave_at gives is_open may_fail most [] [] (m ∷ ns) i xs h e = absurd h
  gave_at gives is_open may_fail most [] (ys ∷ items) ns i xs h e = absurd h
  gave_at gives is_open may_fail most (f ∷ fs) [] ns i xs h e = absurd h
  gave_at gives is_open may_fail most (f ∷ fs) (ys ∷ items) [] i xs h e = absurd h
  gave_at gives is_open may_fail most (f ∷ fs) (ys ∷ items) (m ∷ ns) zero xs h e = let same : ys ≡ xs = cc in (m, refl, h.0.count ∙ ap length same)
  gave_at gives is_open may_fail most (f ∷ fs) (ys ∷ items) (m ∷ ns) (suc i) xs h e = gave_at gives is_open may_fail most fs items ns i xs h.1 e

module _ {X O : Type 0} where
  -- more items were read
  pub offers_on : (works : ℕ → X → O → Type 0) (items items' : List (List X)) (events events' : List (Event O))
      → Reads items items' events events' → OffersWorked works items events → OffersWorked works items' events'
  offers_on works items items' events events' reads h f s o e =
      let was = h f s o (sym (reads.offers f s) ∙ e) in (was.0, reads.stays f s was.0 was.1, was.2)

  pub numbers_work : (works : ℕ → X → O → Type 0) (all : List (List X)) (f s : ℕ) (x : X) (o : O) → item_at all f s ≡ Some x → (y : X) × (item_at all f s ≡ Some y) × works f y o → works f x o
  numbers_work works all f s x o at (y, here, w) = let same : y ≡ x = cc in subst (λ z. works f z o) same w

module _ {F X S O : Type 0} where
  -- the offers are the work on items, so the tail took a prefix of the work
  pub stops_early : (gives : F → List X → Type 0) (works : ℕ → X → O → Type 0) (takes : S → ℕ → ℕ → O → S → Type 0) (refuses : S → S → Type 0)
      (feeds : List F) (first : S) (items : List (List X)) (events : List (Event O)) (tail : S)
      → Halted gives takes refuses feeds first items events tail → OffersWorked works items events → StopsEarly gives works takes refuses feeds first tail
  stops_early gives works takes refuses feeds first items events tail (all, each, stays, (log, took, begins, offers)) worked = (
    all,
    each,
    (
      log,
      start_worked works (λ f s x. item_at all f s ≡ Some x) (λ f s o. (x : X) × (item_at all f s ≡ Some x) × works f x o)
          (numbers_work works all) (numbered zero all) log begins
          (items_all (λ f s x. item_at all f s ≡ Some x) zero all (λ i s x at. let e : i ≡ zero + i = omega arith in ap (λ n. item_at all n s) (sym e) ∙ at))
          (all_numbered_map (λ f s o. offer_at events f s ≡ Some o) (λ f s o. (x : X) × (item_at all f s ≡ Some x) × works f x o) log
          (λ f s o e. let was = worked f s o e in (was.0, stays f s was.0 was.1, was.2)) offers),
      took,
    ),
  )

  -- a round was worked
  pub round_worked : (gives : F → List X → Type 0) (is_open may_fail : F → Type 0) (most : F → ℕ) (takes : S → ℕ → ℕ → O → S → Type 0)
      (feeds : List F) (first : S) (items : List (List X)) (events events' : List (Event O)) (waiting : ℕ → ℕ → ℕ) (ns : List (Inlet F)) (hub hub' : Hub S O) (jobs : List (Job X))
      → InRound gives is_open may_fail most takes feeds first items events ns hub jobs
      → Books items waiting events' → ((f : ℕ) → close_at events' f ≡ close_at events f) → ((f s : ℕ) → waiting f s ≡ 0) → HandedOn takes first events' hub' → file_count hub'.sink ≡ file_count hub.sink
      → InRound gives is_open may_fail most takes feeds first items events' ns hub' []
  round_worked gives is_open may_fail most takes feeds first items events events' waiting ns hub hub' jobs r books closes none handed files = record {
    gave = r.gave;
    books = record { balanced = λ f s. let all = books.balanced f s in let zero_here = none f s in omega (arith, all, zero_here); closes = books.closes };
    closed = λ i n e. closes i ∙ r.closed i n e;
    handed = handed;
    files = files ∙ r.files;
    waits = tt;
    near = tt;
  }

  -- every feed has ended, and nothing waits
  pub finishes : (gives : F → List X → Type 0) (is_open may_fail : F → Type 0) (most : F → ℕ) (works : ℕ → X → O → Type 0) (takes : S → ℕ → ℕ → O → S → Type 0)
      (feeds : List F) (first : S) (items : List (List X)) (events : List (Event O)) (ns : List (Inlet F)) (hub : Hub S O) (jobs : List (Job X))
      → InRound gives is_open may_fail most takes feeds first items events ns hub jobs → OffersWorked works items events → length jobs ≡ 0
      → ((i : ℕ) (n : Inlet F) → slice_get ns i ≡ Some n → n.ended ≡ true) → Finishes gives works takes feeds first hub.trace.items hub.tail
  finishes gives is_open may_fail most works takes feeds first items events ns hub jobs r worked size ended =
      let none = nothing_in jobs size in
      let settled : numbers (due events (length items)) ≡ numbers (numbered zero items) =
      books_settle items events (subst (λ l. Books items (λ f s. times f s (job_numbers l)) events) none r.books) (λ i xs at.
      let inlet = gave_at gives is_open may_fail most feeds items ns i xs r.gave at in
      r.closed i inlet.0 inlet.1 ∙ ap (λ b. cond b (Some inlet.0.items) None) (ended i inlet.0 inlet.1) ∙ ap Some inlet.2) in
      let sizes = gave_sizes gives is_open may_fail most feeds items ns r.gave in
      let files : length items ≡ file_count hub.sink = sizes.0 ∙ sym r.files in (
        items,
        gave_all gives is_open may_fail most feeds items ns r.gave ended,
        (
          due events (file_count hub.sink),
          each_worked works (λ f s x. item_at items f s ≡ Some x) (λ f s o. (x : X) × (item_at items f s ≡ Some x) × works f x o)
              (numbers_work works items) (numbered zero items) (due events (file_count hub.sink)) (ap (λ n. numbers (due events n)) (sym files) ∙ settled)
              (items_all (λ f s x. item_at items f s ≡ Some x) zero items (λ i s x at. let e : i ≡ zero + i = omega arith in ap (λ n. item_at items n s) (sym e) ∙ at))
              (due_holds (λ f s o. (x : X) × (item_at items f s ≡ Some x) × works f x o) events zero (file_count hub.sink) worked),
          r.handed.took,
          r.handed.traced,
        ),
      )
