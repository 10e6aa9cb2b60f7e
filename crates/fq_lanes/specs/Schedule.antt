-- The orders in which workers may be done: each item goes to one worker, each worker offers the work on its items in an
-- order of its own, and these offers reach the sink merged in any way in which each is within its file's window, with one
-- close for each file somewhere among them.
use Rattle.std.specs.Prelude.{◌≡◌, ℕ, zero, suc, List, [], ◌∷◌, ◌++◌, map, length, set, Some, IsPermutation}
use Rattle.std.specs.List.{slice_get, flat_map}
use Rattle.fq_lanes.specs.Numbering.{numbered}
use Rattle.fq_lanes.specs.FileWindow.{InWindow}
use Rattle.fq_lanes.specs.declared.events.Event.{Event}
use Rattle.fq_lanes.specs.declared.events.Event.TheVariants.{Offer, Close}

module _ {A : Type 0} where
  -- nothing is left in any of the lists
  abbrev pub AreEmpty : List (List A) → Type 0
  AreEmpty [] = Unit {0}
  AreEmpty (l ∷ lists) = (l ≡ []) × AreEmpty lists

  -- the lists merged into one, each keeping its order: the first is the first of one of them
  abbrev pub IsMerge : List (List A) → List A → Type 0
  IsMerge lists [] = AreEmpty lists
  IsMerge lists (e ∷ es) = (i : ℕ) × (rest : List A) × (slice_get lists i ≡ Some (e ∷ rest)) × IsMerge (set lists i rest) es

module _ {X O : Type 0} where
  -- what a worker offers
  abbrev pub offers_for : (ℕ → X → O) → List (ℕ × ℕ × X) → List (Event O)
  offers_for work items = map (λ e. Offer e.0 e.1 (work e.0 e.2)) items

  -- the work on each item, by file, then serial
  abbrev pub worked_items : (ℕ → X → O) → List (List X) → List (ℕ × ℕ × O)
  worked_items work items = map (λ e. (e.0, e.1, work e.0 e.2)) (numbered zero items)

  -- a close for each file from f on, each a list of its own
  abbrev pub closes_from : ℕ → List (List X) → List (List (Event O))
  closes_from f [] = []
  closes_from f (xs ∷ items) = (Close f (length xs) ∷ []) ∷ closes_from (suc f) items

  -- dealt: the workers' lists together are the items of all files, each once; merged: their offers and the closes are the events
  pub record IsSchedule (work : ℕ → X → O) (items : List (List X)) (workers : List (List (ℕ × ℕ × X))) (events : List (Event O)) : Type 0 where
    pub dealt : IsPermutation (numbered zero items) (flat_map (λ w. w) workers)
    pub merged : IsMerge (map (offers_for work) workers ++ closes_from zero items) events
    pub near : InWindow (length items) [] events
