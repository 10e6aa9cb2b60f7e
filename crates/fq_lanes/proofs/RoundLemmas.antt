-- One feed's turn in a round.
use Rattle.std.proofs.Common.{◌≡◌, ◌==◌, ◌<◌, ℕ, zero, ◌+◌, List, [], ◌∷◌, ◌++◌, length, set, refl, sym, subst, ap, ◌∙◌, arith, Some, None, Bool, true, false, cond, inl, inr}
use Rattle.std.proofs.lemmas.Bool.{eqb-true, eq-eqb, true≢false}
use Rattle.std.proofs.lemmas.List.{map-append}
use Rattle.std.specs.List.{slice_get}
use mathlib.Core.List.{IsPrefix}
use Rattle.fq_lanes.specs.Due.{due, offer_at, close_at, ready, is_complete, due_count}
use Rattle.fq_lanes.specs.Refusals.{refusal}
use Rattle.fq_lanes.specs.Sink.{file_count}
use Rattle.fq_lanes.specs.Numbering.{item_at, numbered, numbers}
use Rattle.fq_lanes.specs.Hub.{HasStopped}
use Rattle.fq_lanes.specs.Inlet.{GaveOne, Gave, ClosesEnded, end_of}
use Rattle.fq_lanes.specs.Ledger.{one_if, times, none_waits, Books, Reads}
use Rattle.fq_lanes.specs.Round.{job_numbers, AreItems, InRound, Halted}
use Rattle.fq_lanes.specs.FileWindow.{IsNear, AreNear}
use Rattle.fq_lanes.proofs.DueNumbers.{due_begins, due_holds}
use Rattle.fq_lanes.proofs.EventLemmas.{or_else, or_else_none, offer_at_append, close_at_append}
use Rattle.fq_lanes.proofs.InletLemmas.{gave_get, gave_set, gave_sizes, gave_rest, goes_on_item, goes_on_ended}
use Rattle.fq_lanes.proofs.LedgerLemmas.{bool_cases, times_append, books_item, books_close, books_ready, books_complete, offer_item, item_push}
use Rattle.fq_lanes.proofs.BesideLemmas.{nothing_in, prefix_then, get_in, get_within, get_append, get_set_same, get_set_other, each_length, set_same}
use Rattle.fq_lanes.proofs.NumberingLemmas.{all_numbered_prefix, all_numbered_map, file_item, item_set_other, item_set_same}
use Rattle.fq_lanes.proofs.DuePrefixLemmas.{closed_with}
use Rattle.fq_lanes.proofs.FileWindowLemmas.{near_push, due_ready}
use Rattle.fq_lanes.specs.declared.events.Event.{Event}
use Rattle.fq_lanes.specs.declared.events.Event.TheVariants.{Close}
use Rattle.fq_lanes.specs.declared.hub.Hub.{Hub}
use Rattle.fq_lanes.specs.declared.inlet.Inlet.{Inlet}
use Rattle.fq_lanes.specs.declared.job.Job.{Job}

end_some : (b : Bool) (n k : ℕ) → cond b (Some n) None ≡ Some k → b ≡ true
end_some true n k e = refl
end_some false n k e = let bad : ⊥ = cc in absurd bad

module _ {O : Type 0} where
  pub numbers_prefix : (es fs : List (ℕ × ℕ × O)) → IsPrefix es fs → IsPrefix (numbers es) (numbers fs)
  numbers_prefix es fs (t, e) = (numbers t, sym (map-append (λ q. (q.0, q.1)) es t) ∙ ap numbers e)

module _ {F : Type 0} where
  end_open : (n : Inlet F) → n.ended ≡ false → end_of n ≡ None
  end_open n e = ap (λ b. cond b (Some n.items) None) e

  end_closed : (n : Inlet F) → n.ended ≡ true → end_of n ≡ Some n.items
  end_closed n e = ap (λ b. cond b (Some n.items) None) e

module _ {X O : Type 0} where
  reads_item : (items : List (List X)) (events : List (Event O)) (f : ℕ) (xs : List X) (x : X) → slice_get items f ≡ Some xs → Reads items (set items f (xs ++ x ∷ [])) events events
  reads_item items events f xs x at = record {
    offers = λ g s. refl;
    stays = λ g s y e. elim (bool_cases (g == f)) [
      | inl same ↦
          let here : g ≡ f = eqb-true g f same in
          let old : slice_get xs s ≡ Some y = sym (file_item items f s xs at) ∙ ap (λ n. item_at items n s) (sym here) ∙ e in
          ap (λ n. item_at (set items f (xs ++ x ∷ [])) n s) here ∙ item_set_same items f s (xs ++ x ∷ []) (get_within items f xs at) ∙ get_append xs (x ∷ []) s y old
      | inr other ↦
          let ne : g ≡ f → ⊥ = λ is. true≢false (sym (eq-eqb g f is) ∙ other) in
          item_set_other items f g s (xs ++ x ∷ []) ne ∙ e
    ];
  }

  reads_close : (items : List (List X)) (events : List (Event O)) (f n : ℕ) → Reads items items events (events ++ Close f n ∷ [])
  reads_close items events f n = record {
    offers = λ g s. offer_at_append events (Close f n ∷ []) g s ∙ or_else_none (offer_at events g s);
    stays = λ g s x e. e;
  }

  pub reads_none : (items : List (List X)) (events : List (Event O)) → Reads items items events events
  reads_none items events = record { offers = λ f s. refl; stays = λ f s x e. e }

  pub reads_then : (a b c : List (List X)) (es fs gs : List (Event O)) → Reads a b es fs → Reads b c fs gs → Reads a c es gs
  reads_then a b c es fs gs p q = record { offers = λ f s. q.offers f s ∙ p.offers f s; stays = λ f s x e. q.stays f s x (p.stays f s x e) }

module _ {X : Type 0} where
  are_items_on : (items items' : List (List X)) (jobs : List (Job X)) → ((f s : ℕ) (x : X) → item_at items f s ≡ Some x → item_at items' f s ≡ Some x) → AreItems items jobs → AreItems items' jobs
  are_items_on items items' [] stays h = tt
  are_items_on items items' (j ∷ jobs) stays h = (stays j.file j.serial j.item h.0, are_items_on items items' jobs stays h.1)

  are_items_push : (items : List (List X)) (jobs : List (Job X)) (j : Job X) → AreItems items jobs → item_at items j.file j.serial ≡ Some j.item → AreItems items (jobs ++ j ∷ [])
  are_items_push items [] j h e = (e, tt)
  are_items_push items (i ∷ jobs) j h e = (h.0, are_items_push items jobs j h.1 e)

  times_job : (jobs : List (Job X)) (j : Job X) (g s : ℕ) → times g s (job_numbers (jobs ++ j ∷ [])) ≡ times g s (job_numbers jobs) + one_if g s j.file j.serial
  times_job jobs j g s =
      let joined : times g s (job_numbers (jobs ++ j ∷ [])) ≡ times g s (job_numbers jobs ++ (j.file, j.serial) ∷ []) = ap (times g s) (map-append (λ (i : Job X). (i.file, i.serial)) jobs (j ∷ [])) in
      let both = times_append g s (job_numbers jobs) ((j.file, j.serial) ∷ []) in
      omega (arith, joined, both)

module _ {F X S O : Type 0} where
  -- what was handed on before a fault
  pub halted : (gives : F → List X → Type 0) (is_open may_fail : F → Type 0) (most : F → ℕ) (takes : S → ℕ → ℕ → O → S → Type 0) (refuses : S → S → Type 0)
      (feeds : List F) (first : S) (items : List (List X)) (waiting : ℕ → ℕ → ℕ) (events : List (Event O)) (ns : List (Inlet F)) (files : ℕ) (tail : S)
      → ((f : F) → (xs : List X) × gives f xs) → Gave gives is_open may_fail most feeds items ns → Books items waiting events → ClosesEnded ns events
      → files ≡ length feeds → HasStopped takes refuses first events files tail → Halted gives takes refuses feeds first items events tail
  halted gives is_open may_fail most takes refuses feeds first items waiting events ns files tail some gave books closed size (log, begins, took) =
      let rest = gave_rest gives is_open may_fail most feeds items ns some gave in
      let all = rest.0 in
      let count : files ≡ length all = size ∙ each_length gives feeds all rest.1 in
      let due_all : IsPrefix (numbers (due events files)) (numbers (numbered zero all)) =
      subst (λ n. IsPrefix (numbers (due events n)) (numbers (numbered zero all))) (sym count) (due_begins events zero all (λ i ys at.
      let here : zero + i ≡ i = omega arith in
      let on = goes_on_ended items all ns i ys rest.2 at in
      subst (λ n. ((r : ℕ) (y : O) → offer_at events n r ≡ Some y → r < length ys) × (is_complete events n ≡ true → length (ready events n) ≡ length ys)) (sym here) (
        (λ r y e.
            let x = offer_item items waiting events i r y books e in
            let there = goes_on_item items all ns i r x.0 rest.2 x.1 in
            get_within ys r x.0 (sym (file_item all i r ys at) ∙ there)),
        (λ whole.
            let close = closed_with (close_at events i) (length (ready events i)) whole in
            let ended : on.0.ended ≡ true = end_some on.0.ended on.0.items close.0 (sym (closed i on.0 on.2) ∙ close.1) in
            let at_close = books.closes i close.0 close.1 in
            let same : at_close.0 ≡ on.1 = let p = at_close.1 in let q = on.3 in cc in
            close.2 ∙ at_close.2 ∙ ap length same ∙ ap length (sym (on.5 ended))),
      ))) in (
        all,
        rest.1,
        (λ f s x e. goes_on_item items all ns f s x rest.2 e),
        (
          log,
          took,
          prefix_then (numbers log) (numbers (due events files)) (numbers (numbered zero all)) (numbers_prefix log (due events files) begins) due_all,
          all_numbered_prefix (λ f s o. offer_at events f s ≡ Some o) log (due events files) begins (due_holds (λ f s o. offer_at events f s ≡ Some o) events zero files (λ g r x e. e)),
        ),
      )

  pub halted_back : (gives : F → List X → Type 0) (takes : S → ℕ → ℕ → O → S → Type 0) (refuses : S → S → Type 0) (feeds : List F) (first : S)
      (items items' : List (List X)) (events events' : List (Event O)) (tail : S)
      → Reads items items' events events' → Halted gives takes refuses feeds first items' events' tail → Halted gives takes refuses feeds first items events tail
  halted_back gives takes refuses feeds first items items' events events' tail reads (all, each, stays, (log, took, begins, offers)) = (
    all,
    each,
    (λ f s x e. stays f s x (reads.stays f s x e)),
    (log, took, begins, all_numbered_map (λ f s o. offer_at events' f s ≡ Some o) (λ f s o. offer_at events f s ≡ Some o) log (λ f s o e. sym (reads.offers f s) ∙ e) offers),
  )

  -- the feed had ended before
  pub turn_none : (gives : F → List X → Type 0) (is_open may_fail : F → Type 0) (most : F → ℕ) (takes : S → ℕ → ℕ → O → S → Type 0)
      (feeds : List F) (first : S) (items : List (List X)) (events : List (Event O)) (ns : List (Inlet F)) (hub : Hub S O) (jobs : List (Job X)) (f : ℕ) (n : Inlet F)
      → InRound gives is_open may_fail most takes feeds first items events ns hub jobs → slice_get ns f ≡ Some n
      → (items' : List (List X)) × (events' : List (Event O)) × Reads items items' events events' × InRound gives is_open may_fail most takes feeds first items' events' (set ns f n) hub jobs
  turn_none gives is_open may_fail most takes feeds first items events ns hub jobs f n r at =
      (items, events, reads_none items events, subst (λ l. InRound gives is_open may_fail most takes feeds first items events l hub jobs) (sym (set_same ns f n at)) r)

  -- the feed gave an item
  pub turn_item : (gives : F → List X → Type 0) (is_open may_fail : F → Type 0) (most : F → ℕ) (takes : S → ℕ → ℕ → O → S → Type 0)
      (feeds : List F) (first : S) (items : List (List X)) (events : List (Event O)) (ns : List (Inlet F)) (hub : Hub S O) (jobs : List (Job X)) (j : Job X) (n n' : Inlet F)
      → InRound gives is_open may_fail most takes feeds first items events ns hub jobs → slice_get ns j.file ≡ Some n → n.ended ≡ false → n'.ended ≡ false
      → ((feed : F) (xs : List X) → GaveOne gives is_open may_fail most feed xs n → (j.serial ≡ length xs) × GaveOne gives is_open may_fail most feed (xs ++ j.item ∷ []) n')
      → IsNear events (file_count hub.sink) j.file n.items
      → (items' : List (List X)) × (events' : List (Event O)) × Reads items items' events events' × InRound gives is_open may_fail most takes feeds first items' events' (set ns j.file n') hub (jobs ++ j ∷ [])
  turn_item gives is_open may_fail most takes feeds first items events ns hub jobs j n n' r at going still gave near =
      let old = gave_get gives is_open may_fail most feeds items ns j.file n r.gave at in
      let xs = old.1 in
      let new = gave old.0 xs old.4 in
      let items' = set items j.file (xs ++ j.item ∷ []) in
      let unclosed : close_at events j.file ≡ None = r.closed j.file n at ∙ end_open n going in
      let reads : Reads items items' events events = reads_item items events j.file xs j.item old.3 in (
        items',
        events,
        reads,
        record {
          gave = gave_set gives is_open may_fail most feeds items ns j.file old.0 (xs ++ j.item ∷ []) n' r.gave old.2 new.1;
          books = books_item items (λ g s. times g s (job_numbers jobs)) (λ g s. times g s (job_numbers (jobs ++ j ∷ []))) events j.file xs j.item r.books unclosed old.3
              (λ g s. times_job jobs j g s ∙ ap (λ k. times g s (job_numbers jobs) + one_if g s j.file k) new.0);
          closed = λ i m e. elim (bool_cases (i == j.file)) [
            | inl same ↦
                let here : i ≡ j.file = eqb-true i j.file same in
                let is : n' ≡ m = let p = get_set_same ns j.file n' (get_within ns j.file n at) in let q : slice_get (set ns j.file n') j.file ≡ Some m = ap (slice_get (set ns j.file n')) (sym here) ∙ e in cc in
                ap (close_at events) here ∙ unclosed ∙ sym (end_open n' still) ∙ ap end_of is
            | inr other ↦
                let ne : i ≡ j.file → ⊥ = λ is. true≢false (sym (eq-eqb i j.file is) ∙ other) in
                r.closed i m (sym (get_set_other ns j.file i n' ne) ∙ e)
          ];
          handed = r.handed;
          files = r.files;
          waits = are_items_push items' jobs j (are_items_on items items' jobs reads.stays r.waits)
              (ap (item_at items' j.file) new.0 ∙ item_push items j.file xs j.item old.3);
          near = subst (λ l. AreNear events (file_count hub.sink) l) (sym (map-append (λ (i : Job X). (i.file, i.serial)) jobs (j ∷ [])))
              (near_push (file_count hub.sink) events (job_numbers jobs) (j.file, j.serial) r.near (let here = new.0 in let count = old.4.count in omega (arith, here, count, near)));
        },
      )

  -- the sink accepts the file's close
  pub turn_may_close : (gives : F → List X → Type 0) (is_open may_fail : F → Type 0) (most : F → ℕ) (takes : S → ℕ → ℕ → O → S → Type 0)
      (feeds : List F) (first : S) (items : List (List X)) (events : List (Event O)) (ns : List (Inlet F)) (hub : Hub S O) (jobs : List (Job X)) (f : ℕ) (n n' : Inlet F)
      → InRound gives is_open may_fail most takes feeds first items events ns hub jobs → slice_get ns f ≡ Some n → n.ended ≡ false
      → ((feed : F) (xs : List X) → GaveOne gives is_open may_fail most feed xs n → GaveOne gives is_open may_fail most feed xs n')
      → refusal (file_count hub.sink) events (Close f n'.items) ≡ None
  turn_may_close gives is_open may_fail most takes feeds first items events ns hub jobs f n n' r at going gave =
      let old = gave_get gives is_open may_fail most feeds items ns f n r.gave at in
      let new = gave old.0 old.1 old.4 in
      let sizes = gave_sizes gives is_open may_fail most feeds items ns r.gave in
      let free = (books_close items (λ g s. times g s (job_numbers jobs)) events f old.1 r.books (r.closed f n at ∙ end_open n going) old.3).0 in
      ap (λ k. refusal k events (Close f n'.items)) (r.files ∙ sym sizes.0) ∙ ap (λ k. refusal (length items) events (Close f k)) new.count ∙ free

  -- the feed has ended, and its file is closed
  pub turn_end : (gives : F → List X → Type 0) (is_open may_fail : F → Type 0) (most : F → ℕ) (takes : S → ℕ → ℕ → O → S → Type 0)
      (feeds : List F) (first : S) (items : List (List X)) (events : List (Event O)) (ns : List (Inlet F)) (hub : Hub S O) (jobs : List (Job X)) (f : ℕ) (n n' : Inlet F)
      → InRound gives is_open may_fail most takes feeds first items events ns hub jobs → slice_get ns f ≡ Some n → n.ended ≡ false → n'.ended ≡ true
      → ((feed : F) (xs : List X) → GaveOne gives is_open may_fail most feed xs n → GaveOne gives is_open may_fail most feed xs n')
      → Gave gives is_open may_fail most feeds items (set ns f n') × Books items (λ g s. times g s (job_numbers jobs)) (events ++ Close f n'.items ∷ [])
      × ClosesEnded (set ns f n') (events ++ Close f n'.items ∷ []) × Reads items items events (events ++ Close f n'.items ∷ [])
  turn_end gives is_open may_fail most takes feeds first items events ns hub jobs f n n' r at going ended gave =
      let old = gave_get gives is_open may_fail most feeds items ns f n r.gave at in
      let new = gave old.0 old.1 old.4 in
      let unclosed : close_at events f ≡ None = r.closed f n at ∙ end_open n going in
      let all = books_close items (λ g s. times g s (job_numbers jobs)) events f old.1 r.books unclosed old.3 in (
        subst (λ l. Gave gives is_open may_fail most feeds l (set ns f n')) (set_same items f old.1 old.3) (gave_set gives is_open may_fail most feeds items ns f old.0 old.1 n' r.gave old.2 new),
        subst (λ k. Books items (λ g s. times g s (job_numbers jobs)) (events ++ Close f k ∷ [])) (sym new.count) all.1,
        (λ i m e. elim (bool_cases (f == i)) [
          | inl same ↦
              let here : f ≡ i = eqb-true f i same in
              let is : n' ≡ m = let p = get_set_same ns f n' (get_within ns f n at) in let q : slice_get (set ns f n') f ≡ Some m = ap (slice_get (set ns f n')) here ∙ e in cc in
              let none : close_at events i ≡ None = ap (close_at events) (sym here) ∙ unclosed in
              close_at_append events (Close f n'.items ∷ []) i ∙ ap (λ o. or_else o (cond (f == i) (Some n'.items) None)) none ∙ ap (λ b. cond b (Some n'.items) None) same ∙ sym (end_closed n' ended) ∙ ap end_of is
          | inr other ↦
              let ne : i ≡ f → ⊥ = λ is. true≢false (sym (eq-eqb f i (sym is)) ∙ other) in
              close_at_append events (Close f n'.items ∷ []) i ∙ ap (λ b. or_else (close_at events i) (cond b (Some n'.items) None)) other ∙ or_else_none (close_at events i) ∙ r.closed i m (sym (get_set_other ns f i n' ne) ∙ e)
        ]),
        reads_close items events f n'.items,
      )

  -- if nothing waits and each lower feed has ended, all that a feed gave is due
  pub lowest_due : (gives : F → List X → Type 0) (is_open may_fail : F → Type 0) (most : F → ℕ) (takes : S → ℕ → ℕ → O → S → Type 0)
      (feeds : List F) (first : S) (items : List (List X)) (events : List (Event O)) (ns : List (Inlet F)) (hub : Hub S O) (jobs : List (Job X)) (f : ℕ) (n : Inlet F)
      → InRound gives is_open may_fail most takes feeds first items events ns hub jobs → length jobs ≡ 0 → slice_get ns f ≡ Some n
      → ((i : ℕ) (m : Inlet F) → i < f → slice_get ns i ≡ Some m → m.ended ≡ true) → due_count events (file_count hub.sink) f ≡ n.items
  lowest_due gives is_open may_fail most takes feeds first items events ns hub jobs f n r none at ended =
      let books : Books items none_waits events = subst (λ l. Books items (λ g s. times g s (job_numbers l)) events) (nothing_in jobs none) r.books in
      let own = gave_get gives is_open may_fail most feeds items ns f n r.gave at in
      let sizes = gave_sizes gives is_open may_fail most feeds items ns r.gave in
      let within : f < length ns = get_within ns f n at in
      due_ready events zero (file_count hub.sink) f f (omega arith) (omega (arith, within, sizes.1, r.files)) (λ i lt.
      let m = get_in ns i (omega (arith, lt, within)) in
      let one = gave_get gives is_open may_fail most feeds items ns i m.0 r.gave m.1 in
      let here : zero + i ≡ i = omega arith in
      subst (λ k. is_complete events k ≡ true) (sym here)
      (books_complete items events i one.1 books one.3 (r.closed i m.0 m.1 ∙ end_closed m.0 (ended i m.0 lt m.1) ∙ ap Some one.4.count)))
      ∙ books_ready items events f own.1 books own.3 ∙ sym own.4.count
