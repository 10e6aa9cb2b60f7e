-- Lemmas on threads started by recursion.
use Rattle.std.proofs.Common.{◌≡◌, List, [], ◌∷◌, ◌++◌, map, ap, refl, false, ◌∙◌, append_assoc}
use Rattle.std.proofs.lemmas.List.{map-append}
use Rattle.fq_lanes.specs.WorkerLanes.{worker_view, idle_worker, AreNewWorkers}
use Rattle.fq_lanes.specs.FeedLane.{feed_view, new_feed, AreNewFeeds}
use Rattle.fq_lanes.specs.HubView.{FeedView, WorkerView}
use Rattle.fq_lanes.specs.declared.worker_lanes.WorkerLanes.{WorkerLanes}
use Rattle.fq_lanes.specs.declared.feed_lane.FeedLane.{FeedLane}

module _ {A B : Type 0} where
  -- the last lane's list moves from the lanes that are left to the lists that are done
  pub list_moves : (f : A → B) (all rest : List A) (last : A) (done : List B)
      → all ≡ rest ++ last ∷ [] → map f all ++ done ≡ map f rest ++ f last ∷ done
  list_moves f all rest last done e =
      ap (λ xs. map f xs ++ done) e ∙ ap (λ xs. xs ++ done) (map-append f rest (last ∷ [])) ∙ append_assoc (map f rest) (f last ∷ []) done

module _ {A : Type 0} where
  abbrev head_of : A → List A → A
  head_of d [] = d
  head_of d (x ∷ xs) = x

  abbrev tail_of : List A → List A
  tail_of [] = []
  tail_of (x ∷ xs) = xs

  -- the last of a list, and what stands before it
  pub snoc_both : (xs ys : List A) (x y : A) → xs ++ x ∷ [] ≡ ys ++ y ∷ [] → (xs ≡ ys) × (x ≡ y)
  snoc_both [] [] x y e = (refl, ap (head_of x) e)
  snoc_both [] (b ∷ []) x y e = let bad : ⊥ = cc in absurd bad
  snoc_both [] (b ∷ c ∷ ys) x y e = let bad : ⊥ = cc in absurd bad
  snoc_both (a ∷ []) [] x y e = let bad : ⊥ = cc in absurd bad
  snoc_both (a ∷ c ∷ xs) [] x y e = let bad : ⊥ = cc in absurd bad
  snoc_both (a ∷ xs) (b ∷ ys) x y e =
      let rest = snoc_both xs ys x y (ap tail_of e) in
      (ap (λ z. z ∷ xs) (ap (head_of x) e) ∙ ap (λ zs. b ∷ zs) rest.0, rest.1)

module _ {X O : Type 0} where
  pub idle_at_first : (d : WorkerLanes X O) → (worker_view d).jobs ≡ [] → (worker_view d).answers ≡ [] → (worker_view d).outstanding ≡ [] → worker_view d ≡ idle_worker
  idle_at_first d js rs os =
      ap {B = WorkerView X O} (λ l. record { jobs = l; answers = (worker_view d).answers; outstanding = (worker_view d).outstanding }) js
      ∙ ap {B = WorkerView X O} (λ l. record { jobs = []; answers = l; outstanding = (worker_view d).outstanding }) rs
      ∙ ap {B = WorkerView X O} (λ l. record { jobs = []; answers = []; outstanding = l }) os

  pub new_workers_push : (ds : List (WorkerLanes X O)) (d : WorkerLanes X O) → AreNewWorkers ds → worker_view d ≡ idle_worker → AreNewWorkers (ds ++ d ∷ [])
  new_workers_push [] d h idle = (idle, tt)
  new_workers_push (e ∷ ds) d h idle = (h.0, new_workers_push ds d h.1 idle)

module _ {X : Type 0} where
  pub new_at_first : (n : FeedLane X) → (feed_view n).told ≡ [] → (feed_view n).items ≡ 0 → (feed_view n).ended ≡ false → feed_view n ≡ new_feed
  new_at_first n t i e =
      ap {B = FeedView X} (λ l. record { told = l; items = (feed_view n).items; ended = (feed_view n).ended }) t
      ∙ ap {B = FeedView X} (λ l. record { told = []; items = l; ended = (feed_view n).ended }) i
      ∙ ap {B = FeedView X} (λ l. record { told = []; items = 0; ended = l }) e

  pub new_feeds_push : (ns : List (FeedLane X)) (n : FeedLane X) → AreNewFeeds ns → feed_view n ≡ new_feed → AreNewFeeds (ns ++ n ∷ [])
  new_feeds_push [] n h new = (new, tt)
  new_feeds_push (m ∷ ns) n h new = (h.0, new_feeds_push ns n h.1 new)
