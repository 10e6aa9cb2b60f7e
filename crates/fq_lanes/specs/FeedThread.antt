-- What a feed's thread puts into its lane.
use Rattle.std.specs.Prelude.{◌≡◌, List, [], ◌∷◌, ◌++◌, Option, Some, None, map}
use mathlib.Core.List.{IsPrefix}
use Rattle.fq_lanes.specs.declared.faults.FeedFault.{FeedFault}
use Rattle.fq_lanes.specs.declared.faults.FeedFault.TheVariants.{Read}
use Rattle.fq_lanes.specs.declared.messages.FromFeed.{FromFeed}
use Rattle.fq_lanes.specs.declared.messages.FromFeed.TheVariants.{Item, End}

module _ {F X : Type 0} where
  -- xs may come before what feed still gives as now
  abbrev pub Leads : (F → List X → Type 0) → F → List X → F → Type 0
  Leads gives old xs now = (ys : List X) → gives now ys → gives old (xs ++ ys)

  -- the messages are the items that the feed gave and then its end; without a fault they are all that it gives
  abbrev pub ToldAll : (F → List X → Type 0) → (F → Type 0) → F → List (FromFeed X) → Type 0
  ToldAll gives may_fail feed told =
      (xs : List X) × (ys : List X) × (end : Option FeedFault)
      × (told ≡ map Item xs ++ End end ∷ [])
      × gives feed (xs ++ ys)
      × (end ≡ None → ys ≡ [])
      × (end ≡ Some Read → may_fail feed)

module _ {F X : Type 0} where
  -- what was taken begins what the feed's thread put
  abbrev pub Began : (F → List X → Type 0) → (F → Type 0) → F → List (FromFeed X) → Type 0
  Began gives may_fail feed taken = (put : List (FromFeed X)) × ToldAll gives may_fail feed put × IsPrefix taken put
