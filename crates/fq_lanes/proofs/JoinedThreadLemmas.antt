-- What the compared lists show once all threads are joined.
use Rattle.std.proofs.Common.{◌≡◌, ℕ, zero, suc, ◌+◌, ◌<◌, List, [], ◌∷◌, ◌++◌, map, length, refl, sym, subst, ap, ◌∙◌, arith, Option, Some, None, Result, Ok, Err, IfOk, true, inl, inr}
use Rattle.std.proofs.lemmas.List.{append-nil, length-map}
use Rattle.std.specs.List.{slice_get}
use mathlib.Core.List.{IsPrefix}
use Rattle.fq_lanes.specs.Due.{due, offer_at, close_at, ready, is_complete}
use Rattle.fq_lanes.specs.Engine.{Finishes, StopsEarly, BlamesFeed}
use Rattle.fq_lanes.specs.Ledger.{OffersWorked}
use Rattle.fq_lanes.specs.Beside.{Each}
use Rattle.fq_lanes.specs.Numbering.{item_at, numbered, numbers}
use Rattle.fq_lanes.specs.Round.{Halted}
use Rattle.fq_lanes.specs.FeedThread.{Began}
use Rattle.fq_lanes.specs.Sink.{file_count}
use Rattle.fq_lanes.specs.HubView.{items_of, end_told, WorkerView, items_in, AllReplied}
use Rattle.fq_lanes.specs.Turns.{BlamesTold, OffersSourced, Halt, Halts, Settled, RunDone}
use Rattle.fq_lanes.specs.WorkerThread.{Replied, Has}
use Rattle.fq_lanes.proofs.DueNumbers.{due_begins, due_holds}
use Rattle.fq_lanes.proofs.LaneLemmas.{get_of_map, ended_grows, items_grow}
use Rattle.fq_lanes.proofs.LedgerLemmas.{books_settle}
use Rattle.fq_lanes.proofs.BesideLemmas.{prefix_then, get_within, get_prefix, each_length}
use Rattle.fq_lanes.proofs.NumberingLemmas.{items_all, all_numbered_prefix, each_worked, item_file, file_item}
use Rattle.fq_lanes.proofs.DuePrefixLemmas.{closed_with}
use Rattle.fq_lanes.proofs.RoundLemmas.{numbers_prefix}
use Rattle.fq_lanes.proofs.RoundRunLemmas.{numbers_work, stops_early}
use Rattle.fq_lanes.specs.declared.events.Event.{Event}
use Rattle.fq_lanes.specs.declared.faults.FeedFault.{FeedFault}
use Rattle.fq_lanes.specs.declared.faults.FeedFault.TheVariants as feed_fault
use Rattle.fq_lanes.specs.declared.faults.Memory.{Memory}
use Rattle.fq_lanes.specs.declared.faults.RunFault.{RunFault}
use Rattle.fq_lanes.specs.declared.faults.RunFault.TheVariants as run_fault
use Rattle.fq_lanes.specs.declared.hub.Hub.{Hub}
use Rattle.fq_lanes.specs.declared.job.Job.{Job}
use Rattle.fq_lanes.specs.declared.messages.FromFeed.{FromFeed}
use Rattle.fq_lanes.specs.declared.messages.FromFeed.TheVariants.{Item, End}
use Rattle.fq_lanes.specs.declared.messages.ToWorker.{ToWorker}
use Rattle.fq_lanes.specs.declared.messages.ToWorker.TheVariants.{Do, Stop}

module _ {X O : Type 0} where
  replied_at : (works : ℕ → X → O → Type 0) (ds : List (WorkerView X O)) (w : ℕ) (d : WorkerView X O) → AllReplied works ds → slice_get ds w ≡ Some d → Replied works d.jobs d.answers
  replied_at works [] w d h e = let bad : ⊥ = cc in absurd bad
  replied_at works (c ∷ ds) zero d h e = let same : c ≡ d = cc in subst (λ z. Replied works z.jobs z.answers) same h.0
  replied_at works (c ∷ ds) (suc w) d h e = replied_at works ds w d h.1 e

  has_works : (works : ℕ → X → O → Type 0) (js : List (ToWorker X)) (rs : List (Result O Memory)) (job : Job X) (o : O) → Replied works js rs → Has js rs job o → works job.file job.item o
  has_works works [] rs job o h k = absurd k
  has_works works (q ∷ js) [] job o h k = absurd k
  has_works works (Stop ∷ js) (r ∷ rs) job o h k = absurd h
  has_works works (Do first ∷ js) (r ∷ rs) job o h (inl k) =
      let same : first ≡ job = let p = k.0 in cc in
      subst (λ j. works j.file j.item o) same (subst (λ a. IfOk a (λ out. works first.file first.item out)) k.1 h.0)
  has_works works (Do first ∷ js) (r ∷ rs) job o h (inr k) = has_works works js rs job o h.1 k

  -- the workers' promises make each offer the work on the item of its numbers
  pub offers_worked : (works : ℕ → X → O → Type 0) (items : List (List X)) (ds : List (WorkerView X O)) (events : List (Event O))
      → AllReplied works ds → OffersSourced items ds events → OffersWorked works items events
  offers_worked works items ds events replied h f s o e =
      let (job, file, serial, here, (w, d, at, has)) = h f s o e in
      (job.item, here, subst (λ n. works n job.item o) file (has_works works d.jobs d.answers job o (replied_at works ds w d replied at) has))

module _ {X : Type 0} where
  whole_told : (xs : List X) (e : Option FeedFault) → (items_of (map Item xs ++ End e ∷ []) ≡ xs) × (end_told (map Item xs ++ End e ∷ []) ≡ Some e)
  whole_told [] e = (refl, refl)
  whole_told (x ∷ xs) e = let rest = whole_told xs e in (ap (λ l. x ∷ l) rest.0, rest.1)

  only_end : (xs : List X) (e d : Option FeedFault) (i : ℕ) → slice_get (map Item xs ++ End e ∷ []) i ≡ Some (End d) → d ≡ e
  only_end [] e d zero h = cc
  only_end [] e d (suc i) h = let bad : ⊥ = cc in absurd bad
  only_end (x ∷ xs) e d zero h = let bad : ⊥ = cc in absurd bad
  only_end (x ∷ xs) e d (suc i) h = only_end xs e d i h

  -- the list goes on from the items told, and is the same if the end was told without a fault
  abbrev pub GoesTo : List (FromFeed X) → List X → Type 0
  GoesTo told all = IsPrefix (items_of told) all × (end_told told ≡ Some None → all ≡ items_of told)

module _ {A B : Type 0} where
  each_first : (R : A → B → Type 0) (xs : List A) (ys : List B) (i : ℕ) (x : A) → Each R xs ys → slice_get xs i ≡ Some x → (y : B) × (slice_get ys i ≡ Some y) × R x y
  each_first R [] ys i x h e = let bad : ⊥ = cc in absurd bad
  each_first R (z ∷ xs) [] i x h e = absurd h
  each_first R (z ∷ xs) (y ∷ ys) zero x h e = let same : z ≡ x = cc in (y, refl, subst (λ k. R k y) same h.0)
  each_first R (z ∷ xs) (y ∷ ys) (suc i) x h e = each_first R xs ys i x h.1 e

  each_second : (R : A → B → Type 0) (xs : List A) (ys : List B) (i : ℕ) (y : B) → Each R xs ys → slice_get ys i ≡ Some y → (x : A) × (slice_get xs i ≡ Some x) × R x y
  each_second R xs [] i y h e = let bad : ⊥ = cc in absurd bad
  each_second R [] (z ∷ ys) i y h e = absurd h
  each_second R (x ∷ xs) (z ∷ ys) zero y h e = let same : z ≡ y = cc in (x, refl, subst (λ k. R x k) same h.0)
  each_second R (x ∷ xs) (z ∷ ys) (suc i) y h e = each_second R xs ys i y h.1 e

module _ {F X : Type 0} where
  -- what was told of a feed goes on to something that it gives
  began_goes : (gives : F → List X → Type 0) (may_fail : F → Type 0) (feed : F) (told : List (FromFeed X)) → Began gives may_fail feed told → (all : List X) × gives feed all × GoesTo told all
  began_goes gives may_fail feed told (put, (xs, ys, end, is, gave, whole, fails), begins) =
      let both = whole_told xs end in
      let items : items_of put ≡ xs = ap items_of is ∙ both.0 in
      let ends : end_told put ≡ Some end = ap end_told is ∙ both.1 in (
        xs ++ ys,
        gave,
        (
          prefix_then (items_of told) xs (xs ++ ys) (subst (λ l. IsPrefix (items_of told) l) items (items_grow told put begins)) (ys, refl),
          (λ clean.
              let stays = ended_grows told put None begins clean in
              let none : end ≡ None = let p : Some end ≡ Some None = sym ends ∙ stays.1 in cc in
              ap (λ l. xs ++ l) (whole none) ∙ append-nil xs ∙ sym items ∙ stays.0),
        ),
      )

  pub all_go : (gives : F → List X → Type 0) (may_fail : F → Type 0) (feeds : List F) (messages : List (List (FromFeed X))) → Each (Began gives may_fail) feeds messages
      → (alls : List (List X)) × Each gives feeds alls × Each GoesTo messages alls
  all_go gives may_fail [] [] h = ([], tt, tt)
  all_go gives may_fail [] (t ∷ ts) h = absurd h
  all_go gives may_fail (f ∷ fs) [] h = absurd h
  all_go gives may_fail (f ∷ fs) (t ∷ ts) h =
      let rest = all_go gives may_fail fs ts h.1 in
      let one = began_goes gives may_fail f t h.0 in
      (one.0 ∷ rest.0, (one.1, rest.1), (one.2, rest.2))

  -- each feed ended without a fault, so the items told are all that they give
  pub all_clean : (gives : F → List X → Type 0) (may_fail : F → Type 0) (feeds : List F) (messages : List (List (FromFeed X))) → Each (Began gives may_fail) feeds messages
      → ((f : ℕ) (told : List (FromFeed X)) → slice_get messages f ≡ Some told → end_told told ≡ Some None) → Each gives feeds (items_in messages)
  all_clean gives may_fail [] [] h ends = tt
  all_clean gives may_fail [] (t ∷ ts) h ends = absurd h
  all_clean gives may_fail (f ∷ fs) [] h ends = absurd h
  all_clean gives may_fail (f ∷ fs) (t ∷ ts) h ends =
      let one = began_goes gives may_fail f t h.0 in
      (subst (λ l. gives f l) (one.2.1 (ends zero t refl)) one.1, all_clean gives may_fail fs ts h.1 (λ i told at. ends (suc i) told at))

  -- a fault that was told is the feed's
  pub blames_feed : (gives : F → List X → Type 0) (may_fail : F → Type 0) (feeds : List F) (messages : List (List (FromFeed X))) (fault : RunFault) → Each (Began gives may_fail) feeds messages
      → BlamesTold messages fault → BlamesFeed may_fail feeds fault
  blames_feed gives may_fail feeds messages run_fault.Memory h b = tt
  blames_feed gives may_fail feeds messages (run_fault.Read f) h (told, at, (i, there)) =
      let (feed, here, (put, (xs, ys, end, is, gave, whole, fails), begins)) = each_second (Began gives may_fail) feeds messages f told h at in
      let in_put : slice_get put i ≡ Some (End (Some feed_fault.Read)) = get_prefix told put i (End (Some feed_fault.Read)) begins there in
      let same : ◌≡◌ {A = Option FeedFault} (Some feed_fault.Read) end = only_end xs end (Some feed_fault.Read) i (ap (λ l. slice_get l i) (sym is) ∙ in_put) in
      (feed, here, fails (sym same))

module _ {X : Type 0} where
  goes_item : (messages : List (List (FromFeed X))) (alls : List (List X)) (f s : ℕ) (x : X) → Each GoesTo messages alls → item_at (items_in messages) f s ≡ Some x → item_at alls f s ≡ Some x
  goes_item messages alls f s x go e =
      let file = item_file (items_in messages) f s x e in
      let told = get_of_map items_of messages f file.0 file.1 in
      let now = each_first GoesTo messages alls f told.0 go told.1 in
      let here : slice_get (items_of told.0) s ≡ Some x = ap (λ l. slice_get l s) told.2 ∙ file.2 in
      file_item alls f s now.0 now.1 ∙ get_prefix (items_of told.0) now.0 s x now.2.0 here

module _ {F X S O : Type 0} where
  -- what was handed on before a fault
  pub lanes_halted : (gives : F → List X → Type 0) (may_fail : F → Type 0) (takes : S → ℕ → ℕ → O → S → Type 0) (refuses : S → S → Type 0)
      (feeds : List F) (first : S) (messages : List (List (FromFeed X))) (ds : List (WorkerView X O)) (tail : S) (events : List (Event O))
      → Each (Began gives may_fail) feeds messages → Halt takes refuses first messages ds tail events → Halted gives takes refuses feeds first (items_in messages) events tail
  lanes_halted gives may_fail takes refuses feeds first messages ds tail events began h =
      let go = all_go gives may_fail feeds messages began in
      let all = go.0 in
      let (log, begins, took) = h.stopped in
      let count : length messages ≡ length all = each_length GoesTo messages all go.2 in
      let due_all : IsPrefix (numbers (due events (length messages))) (numbers (numbered zero all)) =
      subst (λ n. IsPrefix (numbers (due events n)) (numbers (numbered zero all))) (sym count) (due_begins events zero all (λ i ys at.
      let here : zero + i ≡ i = omega arith in
      let on = each_second GoesTo messages all i ys go.2 at in
      subst (λ n. ((r : ℕ) (y : O) → offer_at events n r ≡ Some y → r < length ys) × (is_complete events n ≡ true → length (ready events n) ≡ length ys)) (sym here) (
        (λ r y e.
            let x = h.sourced i r y e in
            let there = goes_item messages all i r x.0.item go.2 x.3 in
            get_within ys r x.0.item (sym (file_item all i r ys at) ∙ there)),
        (λ whole.
            let close = closed_with (close_at events i) (length (ready events i)) whole in
            let at_close = h.closes i close.0 close.1 in
            let same : at_close.0 ≡ on.0 = let p = at_close.1 in let q = on.1 in cc in
            let clean : end_told on.0 ≡ Some None = ap end_told (sym same) ∙ at_close.2 in
            close.2 ∙ at_close.3 ∙ ap (λ l. length (items_of l)) same ∙ ap length (sym (on.2.1 clean))),
      ))) in (
        all,
        go.1,
        (λ f s x e. goes_item messages all f s x go.2 e),
        (
          log,
          took,
          prefix_then (numbers log) (numbers (due events (length messages))) (numbers (numbered zero all)) (numbers_prefix log (due events (length messages)) begins) due_all,
          all_numbered_prefix (λ f s o. offer_at events f s ≡ Some o) log (due events (length messages)) begins (due_holds (λ f s o. offer_at events f s ≡ Some o) events zero (length messages) (λ g r x e. e)),
        ),
      )

  pub lanes_stop : (gives : F → List X → Type 0) (may_fail : F → Type 0) (works : ℕ → X → O → Type 0) (takes : S → ℕ → ℕ → O → S → Type 0) (refuses : S → S → Type 0)
      (feeds : List F) (first : S) (messages : List (List (FromFeed X))) (ds : List (WorkerView X O)) (tail : S) (events : List (Event O))
      → Each (Began gives may_fail) feeds messages → AllReplied works ds → Halt takes refuses first messages ds tail events → StopsEarly gives works takes refuses feeds first tail
  lanes_stop gives may_fail works takes refuses feeds first messages ds tail events began replied h =
      stops_early gives works takes refuses feeds first (items_in messages) events tail
      (lanes_halted gives may_fail takes refuses feeds first messages ds tail events began h)
      (offers_worked works (items_in messages) ds events replied h.sourced)

  pub lanes_finish : (gives : F → List X → Type 0) (may_fail : F → Type 0) (works : ℕ → X → O → Type 0) (takes : S → ℕ → ℕ → O → S → Type 0)
      (feeds : List F) (first : S) (messages : List (List (FromFeed X))) (ds : List (WorkerView X O)) (hub : Hub S O) (events : List (Event O))
      → Each (Began gives may_fail) feeds messages → AllReplied works ds → Settled takes first messages ds hub events → Finishes gives works takes feeds first hub.trace.items hub.tail
  lanes_finish gives may_fail works takes feeds first messages ds hub events began replied h =
      let items = items_in messages in
      let worked = offers_worked works items ds events replied h.sourced in
      let settled : numbers (due events (length items)) ≡ numbers (numbered zero items) =
      books_settle items events h.books (λ i xs at.
      let told = get_of_map items_of messages i xs at in
      (h.ends i told.0 told.1).1 ∙ ap (λ l. Some (length l)) told.2) in
      let files : length items ≡ file_count hub.sink = length-map messages items_of ∙ sym h.files in (
        items,
        all_clean gives may_fail feeds messages began (λ f told at. (h.ends f told at).0),
        (
          due events (file_count hub.sink),
          each_worked works (λ f s x. item_at items f s ≡ Some x) (λ f s o. (x : X) × (item_at items f s ≡ Some x) × works f x o)
              (numbers_work works items) (numbered zero items) (due events (file_count hub.sink)) (ap (λ n. numbers (due events n)) (sym files) ∙ settled)
              (items_all (λ f s x. item_at items f s ≡ Some x) zero items (λ i s x at. let e : i ≡ zero + i = omega arith in ap (λ n. item_at items n s) (sym e) ∙ at))
              (due_holds (λ f s o. (x : X) × (item_at items f s ≡ Some x) × works f x o) events zero (file_count hub.sink) worked),
          h.handed.took,
          h.handed.traced,
        ),
      )

module _ {X S O : Type 0} where
  pub run_ok : (takes : S → ℕ → ℕ → O → S → Type 0) (refuses : S → S → Type 0) (first : S) (messages : List (List (FromFeed X))) (ds : List (WorkerView X O)) (hub : Hub S O) (outcome : Result (Unit {0}) RunFault) (u : Unit {0})
      → RunDone takes refuses first messages ds hub outcome → outcome ≡ Ok u → (events : List (Event O)) × Settled takes first messages ds hub events
  run_ok takes refuses first messages ds hub outcome u h is = subst (λ r. RunDone takes refuses first messages ds hub r) is h

  pub run_err : (takes : S → ℕ → ℕ → O → S → Type 0) (refuses : S → S → Type 0) (first : S) (messages : List (List (FromFeed X))) (ds : List (WorkerView X O)) (hub : Hub S O) (outcome : Result (Unit {0}) RunFault) (fault : RunFault)
      → RunDone takes refuses first messages ds hub outcome → outcome ≡ Err fault → Halts takes refuses first messages ds hub.tail fault
  run_err takes refuses first messages ds hub outcome fault h is = subst (λ r. RunDone takes refuses first messages ds hub r) is h
