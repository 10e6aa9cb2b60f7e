-- Before the hub's first turn, and after a fault.
use Rattle.std.proofs.Common.{◌≡◌, ℕ, zero, suc, List, [], ◌∷◌, length, refl, sym, subst, ap, ◌∙◌, arith, Some, None, cond}
use Rattle.std.proofs.lemmas.List.{length-map}
use Rattle.std.specs.List.{slice_get}
use Rattle.std.specs.Option.{is_some}
use mathlib.Core.List.{IsPrefix}
use Rattle.fq_lanes.specs.WorkerLanes.{worker_view, worker_views, idle_worker, AreNewWorkers}
use Rattle.fq_lanes.specs.Due.{due}
use Rattle.fq_lanes.specs.FeedLane.{feed_view, feed_views, new_feed, AreNewFeeds}
use Rattle.fq_lanes.specs.Hub.{HandsOn}
use Rattle.fq_lanes.specs.Numbering.{item_at}
use Rattle.fq_lanes.specs.Sink.{HasAccepted, file_count}
use Rattle.fq_lanes.specs.HubView.{items_of, FeedView, WorkerView, Grows, WorkerGrows, told_in, items_in}
use Rattle.fq_lanes.specs.Turns.{BlamesTold, PrecedesTold, FeedFits, WorkerFits, InTurn, Halts}
use Rattle.fq_lanes.specs.FileWindow.{AreNear}
use Rattle.fq_lanes.proofs.NothingReadLemmas.{none_due}
use Rattle.fq_lanes.proofs.TurnLemmas.{none_waiting, halt_on}
use Rattle.fq_lanes.specs.declared.worker_lanes.WorkerLanes.{WorkerLanes}
use Rattle.fq_lanes.specs.declared.faults.RunFault.{RunFault}
use Rattle.fq_lanes.specs.declared.feed_lane.FeedLane.{FeedLane}
use Rattle.fq_lanes.specs.declared.hub.Hub.{Hub}
use Rattle.fq_lanes.specs.declared.messages.FromFeed.{FromFeed}

module _ {X : Type 0} where
  new_feed_at : (ns : List (FeedLane X)) (f : ℕ) (v : FeedView X) → AreNewFeeds ns → slice_get (feed_views ns) f ≡ Some v → v ≡ new_feed
  new_feed_at [] f v h e = let bad : ⊥ = cc in absurd bad
  new_feed_at (n ∷ ns) zero v h e = let same : feed_view n ≡ v = cc in sym same ∙ h.0
  new_feed_at (n ∷ ns) (suc f) v h e = new_feed_at ns f v h.1 e

  nothing_taken : (ns : List (FeedLane X)) (f s : ℕ) → AreNewFeeds ns → item_at (items_in (told_in (feed_views ns))) f s ≡ None
  nothing_taken [] f s h = refl
  nothing_taken (n ∷ ns) zero s h = ap (λ (v : FeedView X). slice_get (items_of v.told) s) h.0
  nothing_taken (n ∷ ns) (suc f) s h = nothing_taken ns f s h.1

module _ {X O : Type 0} where
  new_worker_at : (ds : List (WorkerLanes X O)) (w : ℕ) (d : WorkerView X O) → AreNewWorkers ds → slice_get (worker_views ds) w ≡ Some d → d ≡ idle_worker
  new_worker_at [] w d h e = let bad : ⊥ = cc in absurd bad
  new_worker_at (c ∷ ds) zero d h e = let same : worker_view c ≡ d = cc in sym same ∙ h.0
  new_worker_at (c ∷ ds) (suc w) d h e = new_worker_at ds w d h.1 e

module _ {X S O : Type 0} where
  -- nothing was taken or given
  pub turn_begins : (takes : S → ℕ → ℕ → O → S → Type 0) (ns : List (FeedLane X)) (ds : List (WorkerLanes X O)) (hub : Hub S O)
      → AreNewFeeds ns → AreNewWorkers ds → file_count hub.sink ≡ length ns → HasAccepted hub.sink [] 0 → hub.trace.items ≡ []
      → InTurn takes hub.tail (feed_views ns) (worker_views ds) hub []
  turn_begins takes ns ds hub lanes workers files accepted trace =
      let none : due {T = O} [] (file_count hub.sink) ≡ [] = none_due O (file_count hub.sink) in
      let handed : HandsOn takes hub.tail [] [] hub = record { accepted = accepted; begins = (due [] (file_count hub.sink), refl); took = refl; traced = trace } in
      record {
        known = record {
          lanes = λ f v e. subst (λ u. FeedFits {O = O} [] f u) (sym (new_feed_at ns f v lanes e)) (refl, refl, refl);
          workers = λ w d e. subst (λ u. WorkerFits (items_in (told_in (feed_views ns))) u) (sym (new_worker_at ds w d workers e)) (tt, tt);
          sourced = λ f s o e. let bad : ⊥ = cc in absurd bad;
          books = record {
            balanced = λ f s.
                let waits = none_waiting (worker_views ds) f s (λ w d e. ap (λ (u : WorkerView X O). u.outstanding) (new_worker_at ds w d workers e)) in
                let given : cond {A = ℕ} (is_some (item_at (items_in (told_in (feed_views ns))) f s)) 1 0 ≡ 0 = ap (λ o. cond {A = ℕ} (is_some o) 1 0) (nothing_taken ns f s lanes) in
                omega (arith, waits, given);
            closes = λ f n e. let bad : ⊥ = cc in absurd bad;
          };
        };
        handed = subst (λ l. HandsOn takes hub.tail [] l hub) (sym none) handed;
        files = files ∙ sym (length-map ns feed_view);
        near = λ w d e. subst (λ (u : WorkerView X O). AreNear {O = O} [] (length (feed_views ns)) u.outstanding) (sym (new_worker_at ds w d workers e)) tt;
      }

  -- after a fault the lanes are drained
  pub halts_on : (takes : S → ℕ → ℕ → O → S → Type 0) (refuses : S → S → Type 0) (first : S) (messages tolds' : List (List (FromFeed X))) (ds ds' : List (WorkerView X O)) (tail : S) (fault fault' : RunFault)
      → length tolds' ≡ length messages → Grows IsPrefix messages tolds' → Grows WorkerGrows ds ds' → (BlamesTold messages fault → BlamesTold tolds' fault')
      → (PrecedesTold messages fault → PrecedesTold tolds' fault')
      → Halts takes refuses first messages ds tail fault → Halts takes refuses first tolds' ds' tail fault'
  halts_on takes refuses first messages tolds' ds ds' tail fault fault' size g k b p ((events, h), blames, precedes) =
      ((events, halt_on takes refuses first messages tolds' ds ds' tail events size g k h), b blames, p precedes)
