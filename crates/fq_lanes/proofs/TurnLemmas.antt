-- From turn to turn of the hub.
use Rattle.std.proofs.Common.{◌≡◌, ◌==◌, ◌&&◌, ℕ, zero, suc, ◌+◌, Bool, List, [], ◌∷◌, ◌++◌, length, length-append, set, refl, sym, subst, ap, ◌∙◌, arith, Some, None, Result, Ok, true, false, cond, inl, inr}
use Rattle.std.proofs.lemmas.List.{length-map}
use Rattle.std.proofs.lemmas.Bool.{eq-eqb, ne_eqb}
use Rattle.std.specs.List.{slice_get, list_all}
use mathlib.Core.List.{IsPrefix}
use Rattle.fq_lanes.specs.Due.{offer_at, close_at}
use Rattle.fq_lanes.specs.Hub.{HasStopped}
use Rattle.fq_lanes.specs.Ledger.{times, one_if, Books}
use Rattle.fq_lanes.specs.Numbering.{item_at}
use Rattle.fq_lanes.specs.Refusals.{refusal, Accepted}
use Rattle.fq_lanes.specs.HubView.{items_of, end_told, FeedView, WorkerView, Grows, WorkerGrows, told_in, items_in}
use Rattle.fq_lanes.specs.Turns.{Polls, JobsAreItems, waiting, FeedFits, WorkerFits, Sourced, OffersSourced, OutstandingNear, Known, InTurn, Halt, Settled}
use Rattle.fq_lanes.specs.FileWindow.{AreNear}
use Rattle.fq_lanes.specs.WorkerThread.{Waits, Has}
use Rattle.fq_lanes.proofs.EventLemmas.{or_else, or_else_none, close_at_append, offer_at_append}
use Rattle.fq_lanes.proofs.HubLemmas.{stops_all}
use Rattle.fq_lanes.proofs.LaneLemmas.{prefix_by, prefix_is, set_cases, get_map, get_of_map, told_item, told_end, ended_grows, item_grows, items_in_set, told_in_grows, tolds_same, workers_same, workers_set}
use Rattle.fq_lanes.proofs.LedgerLemmas.{one_self, times_append, books_item, books_close, books_offer, item_push, offer_found}
use Rattle.fq_lanes.proofs.BesideLemmas.{get_within, get_set_same, set_same}
use Rattle.fq_lanes.proofs.FileWindowLemmas.{near_on, due_count_grows}
use Rattle.fq_lanes.proofs.WorkerThreadLemmas.{waits_more, waits_less}
use Rattle.fq_lanes.specs.declared.events.Event.{Event}
use Rattle.fq_lanes.specs.declared.events.Event.TheVariants.{Offer, Close}
use Rattle.fq_lanes.specs.declared.faults.Memory.{Memory}
use Rattle.fq_lanes.specs.declared.feed_lane.Polled.TheVariants as polled
use Rattle.fq_lanes.specs.declared.hub.Hub.{Hub}
use Rattle.fq_lanes.specs.declared.job.Job.{Job}
use Rattle.fq_lanes.specs.declared.messages.FromFeed.{FromFeed}
use Rattle.fq_lanes.specs.declared.messages.FromFeed.TheVariants.{Item, End}
use Rattle.fq_lanes.specs.declared.messages.ToWorker.{ToWorker}
use Rattle.fq_lanes.specs.declared.messages.ToWorker.TheVariants.{Do, Stop}

and_left : (a b : Bool) → (a && b) ≡ true → a ≡ true
and_left true b e = refl
and_left false b e = e

and_right : (a b : Bool) → (a && b) ≡ true → b ≡ true
and_right true b e = e
and_right false b e = let bad : ⊥ = cc in absurd bad

end_some : (b : Bool) (n k : ℕ) → cond b (Some n) None ≡ Some k → (b ≡ true) × (k ≡ n)
end_some true n k e = let same : n ≡ k = cc in (refl, sym same)
end_some false n k e = let bad : ⊥ = cc in absurd bad

module _ {O : Type 0} where
  close_step : (events : List (Event O)) (f n i : ℕ) → i ≡ f → close_at events f ≡ None → close_at (events ++ Close f n ∷ []) i ≡ Some n
  close_step events f n i is none =
      close_at_append events (Close f n ∷ []) i ∙ ap (λ o. or_else o (cond (f == i) (Some n) None)) (ap (close_at events) is ∙ none) ∙ ap (λ b. cond b (Some n) None) (eq-eqb f i (sym is))

  close_other : (events : List (Event O)) (f n i : ℕ) → (i ≡ f → ⊥) → close_at (events ++ Close f n ∷ []) i ≡ close_at events i
  close_other events f n i ne =
      close_at_append events (Close f n ∷ []) i ∙ ap (λ b. or_else (close_at events i) (cond b (Some n) None)) (ne_eqb f i (λ e. ne (sym e))) ∙ or_else_none (close_at events i)

module _ {X : Type 0} where
  feed_items : (vs : List (FeedView X)) (f : ℕ) (v : FeedView X) → slice_get vs f ≡ Some v → slice_get (items_in (told_in vs)) f ≡ Some (items_of v.told)
  feed_items vs f v at = get_map items_of (told_in vs) f v.told (get_map (λ (u : FeedView X). u.told) vs f v at)

  pub sizes : (vs : List (FeedView X)) → (length (told_in vs) ≡ length vs) × (length (items_in (told_in vs)) ≡ length vs)
  sizes vs = let a = length-map vs (λ (u : FeedView X). u.told) in let b = length-map (told_in vs) items_of in (a, b ∙ a)

  jobs_items_on : (items items' : List (List X)) (js : List (ToWorker X)) → ((f s : ℕ) (x : X) → item_at items f s ≡ Some x → item_at items' f s ≡ Some x) → JobsAreItems items js → JobsAreItems items' js
  jobs_items_on items items' [] stays h = tt
  jobs_items_on items items' (Do job ∷ js) stays h = (stays job.file job.serial job.item h.0, jobs_items_on items items' js stays h.1)
  jobs_items_on items items' (Stop ∷ js) stays h = jobs_items_on items items' js stays h

  jobs_items_more : (items : List (List X)) (js : List (ToWorker X)) (job : Job X) → JobsAreItems items js → item_at items job.file job.serial ≡ Some job.item → JobsAreItems items (js ++ Do job ∷ [])
  jobs_items_more items [] job h e = (e, tt)
  jobs_items_more items (Do first ∷ js) job h e = (h.0, jobs_items_more items js job h.1 e)
  jobs_items_more items (Stop ∷ js) job h e = jobs_items_more items js job h e

module _ {X O : Type 0} where
  has_on : (js more : List (ToWorker X)) (rs news : List (Result O Memory)) (job : Job X) (o : O) → Has js rs job o → Has (js ++ more) (rs ++ news) job o
  has_on [] more rs news job o h = absurd h
  has_on (q ∷ js) more [] news job o h = absurd h
  has_on (q ∷ js) more (r ∷ rs) news job o (inl h) = inl h
  has_on (q ∷ js) more (r ∷ rs) news job o (inr h) = inr (has_on js more rs news job o h)

  has_grows : (d e : WorkerView X O) (job : Job X) (o : O) → WorkerGrows d e → Has d.jobs d.answers job o → Has e.jobs e.answers job o
  has_grows d e job o ((more, p), (news, q)) h =
      subst (λ js. Has js e.answers job o) p (subst (λ rs. Has (d.jobs ++ more) rs job o) q (has_on d.jobs more d.answers news job o h))

  has_item : (items : List (List X)) (js : List (ToWorker X)) (rs : List (Result O Memory)) (job : Job X) (o : O) → JobsAreItems items js → Has js rs job o → item_at items job.file job.serial ≡ Some job.item
  has_item items [] rs job o h k = absurd k
  has_item items (q ∷ js) [] job o h k = absurd k
  has_item items (Do first ∷ js) (r ∷ rs) job o h (inl k) =
      let same : first ≡ job = let e = k.0 in cc in subst (λ j. item_at items j.file j.serial ≡ Some j.item) same h.0
  has_item items (Stop ∷ js) (r ∷ rs) job o h (inl k) = let e = k.0 in let bad : ⊥ = cc in absurd bad
  has_item items (Do first ∷ js) (r ∷ rs) job o h (inr k) = has_item items js rs job o h.1 k
  has_item items (Stop ∷ js) (r ∷ rs) job o h (inr k) = has_item items js rs job o h k

  -- more was taken, given and answered
  pub sourced_on : (messages tolds' : List (List (FromFeed X))) (ds ds' : List (WorkerView X O)) (events : List (Event O))
      → Grows IsPrefix messages tolds' → Grows WorkerGrows ds ds' → OffersSourced (items_in messages) ds events → OffersSourced (items_in tolds') ds' events
  sourced_on messages tolds' ds ds' events g k h f s o e =
      let (job, file, serial, here, (w, d, at, has)) = h f s o e in
      let now = k w d at in
      (job, file, serial, item_grows messages tolds' f s job.item g here, (w, now.0, now.1, has_grows d now.0 job o now.2 has))

  sourced_more : (items : List (List X)) (ds : List (WorkerView X O)) (events : List (Event O)) (f s : ℕ) (o : O)
      → OffersSourced items ds events → Sourced items ds f s o → OffersSourced items ds (events ++ Offer f s o ∷ [])
  sourced_more items ds events f s o h new g r y e =
      elim (offer_found events f s o g r y e) [
        | inl old ↦ h g r y old
        | inr same ↦ subst (λ n. Sourced items ds n r y) same.0 (subst (λ n. Sourced items ds f n y) same.1 (subst (λ z. Sourced items ds f s z) same.2 new))
      ]

  -- one worker's outstanding jobs change
  waiting_set : (ds : List (WorkerView X O)) (w : ℕ) (d d' : WorkerView X O) (f s : ℕ) → slice_get ds w ≡ Some d
      → waiting (set ds w d') f s + times f s d.outstanding ≡ waiting ds f s + times f s d'.outstanding
  waiting_set [] w d d' f s e = let bad : ⊥ = cc in absurd bad
  waiting_set (c ∷ ds) zero d d' f s e = let same : c ≡ d = cc in omega (arith, ap (λ (z : WorkerView X O). times f s z.outstanding) same)
  waiting_set (c ∷ ds) (suc w) d d' f s e = omega (arith, waiting_set ds w d d' f s e)

  -- the lane of a file that is not closed
  fits_open : (events : List (Event O)) (f : ℕ) (v : FeedView X) → v.ended ≡ false → FeedFits events f v → (end_told v.told ≡ None) × (close_at events f ≡ None)
  fits_open events f v going fit = (fit.1 ∙ ap (λ b. cond b (Some None) None) going, fit.2 ∙ ap (λ b. cond b (Some v.items) None) going)

  -- a feed gave an item, and a worker the job
  pub known_item : (vs : List (FeedView X)) (ds : List (WorkerView X O)) (events : List (Event O)) (f s w : ℕ) (x : X) (v v' : FeedView X) (d d' : WorkerView X O) (job : Job X)
      → Known vs ds events → slice_get vs f ≡ Some v → Polls v (polled.Item s x) v' → slice_get ds w ≡ Some d
      → job.file ≡ f → job.serial ≡ s → job.item ≡ x
      → d'.jobs ≡ d.jobs ++ Do job ∷ [] → d'.answers ≡ d.answers → d'.outstanding ≡ d.outstanding ++ (job.file, job.serial) ∷ []
      → Known (set vs f v') (set ds w d') events
  known_item vs ds events f s w x v v' d d' job r at (going, told, serial, count, still) atw ef es ex js rs os =
      let fit = r.lanes f v at in
      let xs = items_of v.told in
      let going_on = fits_open events f v going fit in
      let one = told_item v.told x going_on.0 in
      let now : items_of v'.told ≡ xs ++ x ∷ [] = ap items_of told ∙ one.0 in
      let ends : end_told v'.told ≡ None = ap end_told told ∙ one.1 in
      let items = items_in (told_in vs) in
      let items' = items_in (told_in (set vs f v')) in
      let is : items' ≡ set items f (xs ++ x ∷ []) = items_in_set vs f v' ∙ ap (λ l. set items f l) now in
      let row = feed_items vs f v at in
      let grow = told_in_grows vs f v v' at (prefix_by v.told v'.told (Item x ∷ []) told) in
      let stays : (g q : ℕ) (y : X) → item_at items g q ≡ Some y → item_at items' g q ≡ Some y = λ g q y e. item_grows (told_in vs) (told_in (set vs f v')) g q y grow e in
      let place : s ≡ length xs = serial ∙ fit.0 in
      let here : item_at items' job.file job.serial ≡ Some job.item =
      ap (λ n. item_at items' n job.serial) ef ∙ ap (λ n. item_at items' f n) (es ∙ place) ∙ ap (λ l. item_at l f (length xs)) is ∙ item_push items f xs x row ∙ ap Some (sym ex) in
      let gave = workers_set ds w d d' atw (prefix_by d.jobs d'.jobs (Do job ∷ []) js, prefix_is d.answers d'.answers rs) in
      let worker_fits = r.workers w d atw in
      record {
        lanes = λ i m e. set_cases vs f i v' m (FeedFits events i m) e
            (λ at_f same. subst (λ n. FeedFits events n m) (sym at_f) (subst (λ n. FeedFits events f n) same (
              (let size : length (items_of v'.told) ≡ length xs + 1 = ap length now ∙ length-append xs (x ∷ []) in omega (arith, count, size, fit.0)),
              ends ∙ sym (ap (λ b. cond b (Some None) None) still),
              going_on.1 ∙ sym (ap (λ b. cond b (Some v'.items) None) still),
            )))
            (λ _ old. r.lanes i m old);
        workers = λ i m e. set_cases ds w i d' m (WorkerFits items' m) e
            (λ _ same. subst (λ n. WorkerFits items' n) same (
              subst (λ l. JobsAreItems items' l) (sym js) (jobs_items_more items' d.jobs job (jobs_items_on items items' d.jobs stays worker_fits.0) here),
              subst (λ l. Waits l d'.answers d'.outstanding) (sym js) (subst (λ l. Waits (d.jobs ++ Do job ∷ []) l d'.outstanding) (sym rs)
                  (subst (λ l. Waits (d.jobs ++ Do job ∷ []) d.answers l) (sym os) (waits_more d.jobs d.answers d.outstanding job worker_fits.1))),
            ))
            (λ _ old. let was = r.workers i m old in (jobs_items_on items items' m.jobs stays was.0, was.1));
        sourced = sourced_on (told_in vs) (told_in (set vs f v')) ds (set ds w d') events grow gave r.sourced;
        books = subst (λ l. Books l (waiting (set ds w d')) events) (sym is)
            (books_item items (waiting ds) (waiting (set ds w d')) events f xs x r.books going_on.1 row
            (λ g q.
            let moved = waiting_set ds w d d' g q atw in
            let more : times g q d'.outstanding ≡ times g q d.outstanding + times g q ((job.file, job.serial) ∷ []) = ap (times g q) os ∙ times_append g q d.outstanding ((job.file, job.serial) ∷ []) in
            let one : one_if g q job.file job.serial ≡ one_if g q f (length xs) = ap (λ n. one_if g q n job.serial) ef ∙ ap (λ n. one_if g q f n) (es ∙ place) in
            omega (arith, moved, more, one)));
      }

  -- a feed has ended, and its file may be closed
  pub known_close : (vs : List (FeedView X)) (ds : List (WorkerView X O)) (events : List (Event O)) (f n : ℕ) (v v' : FeedView X)
      → Known vs ds events → slice_get vs f ≡ Some v → Polls v (polled.End n) v'
      → (refusal (length vs) events (Close f n) ≡ None) × Known (set vs f v') ds (events ++ Close f n ∷ [])
  known_close vs ds events f n v v' r at (going, told, number, count, ended) =
      let fit = r.lanes f v at in
      let xs = items_of v.told in
      let going_on = fits_open events f v going fit in
      let one = told_end v.told None going_on.0 in
      let now : items_of v'.told ≡ xs = ap items_of told ∙ one.0 in
      let ends : end_told v'.told ≡ Some None = ap end_told told ∙ one.1 in
      let items = items_in (told_in vs) in
      let items' = items_in (told_in (set vs f v')) in
      let row = feed_items vs f v at in
      let grow = told_in_grows vs f v v' at (prefix_by v.told v'.told (End None ∷ []) told) in
      let stays : (g q : ℕ) (y : X) → item_at items g q ≡ Some y → item_at items' g q ≡ Some y = λ g q y e. item_grows (told_in vs) (told_in (set vs f v')) g q y grow e in
      let size : n ≡ length xs = number ∙ fit.0 in
      let is : items' ≡ items = items_in_set vs f v' ∙ ap (λ l. set items f l) now ∙ set_same items f xs row in
      let both = books_close items (waiting ds) events f xs r.books going_on.1 row in (
        ap (λ k. refusal k events (Close f n)) (sym (sizes vs).1) ∙ ap (λ k. refusal (length items) events (Close f k)) size ∙ both.0,
        record {
          lanes = λ i m e. set_cases vs f i v' m (FeedFits (events ++ Close f n ∷ []) i m) e
              (λ at_f same. subst (λ z. FeedFits (events ++ Close f n ∷ []) i z) same (
                count ∙ fit.0 ∙ ap length (sym now),
                ends ∙ sym (ap (λ b. cond b (Some None) None) ended),
                close_step events f n i at_f going_on.1 ∙ ap Some (number ∙ sym count) ∙ sym (ap (λ b. cond b (Some v'.items) None) ended),
              ))
              (λ ne old. let was = r.lanes i m old in (was.0, was.1, close_other events f n i ne ∙ was.2));
          workers = λ i m e. let was = r.workers i m e in (jobs_items_on items items' m.jobs stays was.0, was.1);
          sourced = λ g q o e. sourced_on (told_in vs) (told_in (set vs f v')) ds ds events grow (workers_same ds) r.sourced g q o
              (sym (offer_at_append events (Close f n ∷ []) g q ∙ or_else_none (offer_at events g q)) ∙ e);
          books = subst (λ l. Books l (waiting ds) (events ++ Close f n ∷ [])) (sym is) (subst (λ k. Books items (waiting ds) (events ++ Close f k ∷ [])) (sym size) both.1);
        },
      )

  -- a worker's answer to its oldest outstanding job may be offered
  pub known_offer : (vs : List (FeedView X)) (ds : List (WorkerView X O)) (events : List (Event O)) (w : ℕ) (p : ℕ × ℕ) (o : O) (d d' : WorkerView X O)
      → Known vs ds events → slice_get ds w ≡ Some d → d'.jobs ≡ d.jobs → d'.answers ≡ d.answers ++ Ok o ∷ [] → d.outstanding ≡ p ∷ d'.outstanding
      → (refusal (length vs) events (Offer p.0 p.1 o) ≡ None) × Known vs (set ds w d') (events ++ Offer p.0 p.1 o ∷ [])
  known_offer vs ds events w p o d d' r at js rs os =
      let items = items_in (told_in vs) in
      let fit = r.workers w d at in
      let less = waits_less d.jobs d.answers p d'.outstanding (Ok o) (subst (λ l. Waits d.jobs d.answers l) os fit.1) in
      let job = less.1.0 in
      let has : Has d'.jobs d'.answers job o = subst (λ l. Has l d'.answers job o) (sym js) (subst (λ l. Has d.jobs l job o) (sym rs) less.1.3) in
      let item = has_item items d'.jobs d'.answers job o (subst (λ l. JobsAreItems items l) (sym js) fit.0) has in
      let here : item_at items p.0 p.1 ≡ Some job.item = ap (λ n. item_at items n p.1) (sym less.1.1) ∙ ap (λ n. item_at items job.file n) (sym less.1.2) ∙ item in
      let grow = workers_set ds w d d' at (prefix_is d.jobs d'.jobs js, prefix_by d.answers d'.answers (Ok o ∷ []) rs) in
      let below = get_within ds w d at in
      let one = one_self p.0 p.1 in
      let both = books_offer items (waiting ds) (waiting (set ds w d')) events p.0 p.1 o r.books
      (let moved = waiting_set ds w d d' p.0 p.1 at in let was : times p.0 p.1 d.outstanding ≡ 1 + times p.0 p.1 d'.outstanding = ap (times p.0 p.1) os ∙ ap (λ k. k + times p.0 p.1 d'.outstanding) one in omega (arith, moved, was))
      (λ g q. let moved = waiting_set ds w d d' g q at in let was : times g q d.outstanding ≡ one_if g q p.0 p.1 + times g q d'.outstanding = ap (times g q) os in omega (arith, moved, was)) in (
        ap (λ k. refusal k events (Offer p.0 p.1 o)) (sym (sizes vs).1) ∙ both.0,
        record {
          lanes = λ i m e. let was = r.lanes i m e in (was.0, was.1, close_at_append events (Offer p.0 p.1 o ∷ []) i ∙ or_else_none (close_at events i) ∙ was.2);
          workers = λ i m e. set_cases ds w i d' m (WorkerFits items m) e
              (λ _ same. subst (λ z. WorkerFits items z) same (
                subst (λ l. JobsAreItems items l) (sym js) fit.0,
                subst (λ l. Waits l d'.answers d'.outstanding) (sym js) (subst (λ l. Waits d.jobs l d'.outstanding) (sym rs) less.0),
              ))
              (λ _ old. r.workers i m old);
          sourced = sourced_more items (set ds w d') events p.0 p.1 o (sourced_on (told_in vs) (told_in vs) ds (set ds w d') events (tolds_same (told_in vs)) grow r.sourced)
              (job, less.1.1, less.1.2, here, (w, d', get_set_same ds w d' below, has));
          books = both.1;
        },
      )

module _ {X O : Type 0} where
  -- an event more
  pub near_event : (files : ℕ) (ds : List (WorkerView X O)) (events : List (Event O)) (e : Event O) → Accepted files (events ++ e ∷ []) → OutstandingNear events files ds → OutstandingNear (events ++ e ∷ []) files ds
  near_event files ds events e a h w d at = near_on files events (events ++ e ∷ []) d.outstanding (λ f. due_count_grows files events e f a) (h w d at)

  -- one worker's outstanding jobs change
  pub near_set : (files : ℕ) (ds : List (WorkerView X O)) (events : List (Event O)) (w : ℕ) (d : WorkerView X O) → OutstandingNear events files ds → AreNear events files d.outstanding → OutstandingNear events files (set ds w d)
  near_set files ds events w d h now i m e = set_cases ds w i d m (AreNear events files m.outstanding) e (λ _ same. subst (λ (n : WorkerView X O). AreNear events files n.outstanding) same now) (λ _ old. h i m old)

module _ {X S O : Type 0} where
  -- a fault: what is known stays, and nothing more is offered
  pub known_halts : (takes : S → ℕ → ℕ → O → S → Type 0) (refuses : S → S → Type 0) (first : S) (vs : List (FeedView X)) (ds : List (WorkerView X O)) (tail : S) (events : List (Event O))
      → Known vs ds events → HasStopped takes refuses first events (length vs) tail → Halt takes refuses first (told_in vs) ds tail events
  known_halts takes refuses first vs ds tail events r stopped = record {
    closes = λ f n e.
        let file = r.books.closes f n e in
        let told = get_of_map items_of (told_in vs) f file.0 file.1 in
        let v = get_of_map (λ (u : FeedView X). u.told) vs f told.0 told.1 in
        let fit = r.lanes f v.0 v.1 in
        let ended = end_some v.0.ended v.0.items n (sym fit.2 ∙ e) in
        (told.0, told.1, ap end_told (sym v.2) ∙ fit.1 ∙ ap (λ b. cond b (Some None) None) ended.0, file.2 ∙ ap length (sym told.2));
    sourced = r.sourced;
    stopped = subst (λ n. HasStopped takes refuses first events n tail) (sym (sizes vs).0) stopped;
  }

  pub turn_halts : (takes : S → ℕ → ℕ → O → S → Type 0) (refuses : S → S → Type 0) (first : S) (vs : List (FeedView X)) (ds : List (WorkerView X O)) (hub : Hub S O) (events : List (Event O))
      → InTurn takes first vs ds hub events → Halt takes refuses first (told_in vs) ds hub.tail events
  turn_halts takes refuses first vs ds hub events t =
      known_halts takes refuses first vs ds hub.tail events t.known (subst (λ n. HasStopped takes refuses first events n hub.tail) t.files (stops_all takes refuses first events hub t.handed))

  -- more is taken and answered after it
  pub halt_on : (takes : S → ℕ → ℕ → O → S → Type 0) (refuses : S → S → Type 0) (first : S) (messages tolds' : List (List (FromFeed X))) (ds ds' : List (WorkerView X O)) (tail : S) (events : List (Event O))
      → length tolds' ≡ length messages → Grows IsPrefix messages tolds' → Grows WorkerGrows ds ds' → Halt takes refuses first messages ds tail events → Halt takes refuses first tolds' ds' tail events
  halt_on takes refuses first messages tolds' ds ds' tail events size g k h = record {
    closes = λ f n e.
        let was = h.closes f n e in
        let now = g f was.0 was.1 in
        let stays = ended_grows was.0 now.0 None now.2 was.2 in
        (now.0, now.1, stays.1, was.3 ∙ ap length (sym stays.0));
    sourced = sourced_on messages tolds' ds ds' events g k h.sourced;
    stopped = subst (λ n. HasStopped takes refuses first events n tail) (sym size) h.stopped;
  }

module _ {A : Type 0} where
  pub all_at : (p : A → Bool) (xs : List A) (i : ℕ) (x : A) → list_all p xs ≡ true → slice_get xs i ≡ Some x → p x ≡ true
  all_at p [] i x h e = let bad : ⊥ = cc in absurd bad
  all_at p (y ∷ xs) zero x h e = let same : y ≡ x = cc in ap p (sym same) ∙ and_left (p y) (list_all p xs) h
  all_at p (y ∷ xs) (suc i) x h e = all_at p xs i x (and_right (p y) (list_all p xs) h) e

module _ {X O : Type 0} where
  pub none_waiting : (ds : List (WorkerView X O)) (f s : ℕ) → ((w : ℕ) (d : WorkerView X O) → slice_get ds w ≡ Some d → d.outstanding ≡ []) → waiting ds f s ≡ 0
  none_waiting [] f s h = refl
  none_waiting (d ∷ ds) f s h =
      let here : times f s d.outstanding ≡ 0 = ap (times f s) (h zero d refl) in
      let rest = none_waiting ds f s (λ w e at. h (suc w) e at) in
      omega (arith, here, rest)

module _ {X S O : Type 0} where
  -- every feed has ended, and nothing is outstanding
  pub turn_settles : (takes : S → ℕ → ℕ → O → S → Type 0) (first : S) (vs : List (FeedView X)) (ds : List (WorkerView X O)) (hub : Hub S O) (events : List (Event O))
      → InTurn takes first vs ds hub events → ((f : ℕ) (v : FeedView X) → slice_get vs f ≡ Some v → v.ended ≡ true) → ((w : ℕ) (d : WorkerView X O) → slice_get ds w ≡ Some d → d.outstanding ≡ [])
      → Settled takes first (told_in vs) ds hub events
  turn_settles takes first vs ds hub events t ended idle = record {
    ends = λ f told at.
        let v = get_of_map (λ (u : FeedView X). u.told) vs f told at in
        let fit = t.known.lanes f v.0 v.1 in
        let over = ended f v.0 v.1 in
        (ap end_told (sym v.2) ∙ fit.1 ∙ ap (λ b. cond b (Some None) None) over, fit.2 ∙ ap (λ b. cond b (Some v.0.items) None) over ∙ ap Some (fit.0 ∙ ap (λ l. length (items_of l)) v.2));
    sourced = t.known.sourced;
    books = record {
      balanced = λ f s. let was = t.known.books.balanced f s in let none = none_waiting ds f s idle in omega (arith, was, none);
      closes = t.known.books.closes;
    };
    handed = t.handed;
    files = t.files ∙ sym (sizes vs).0;
  }
