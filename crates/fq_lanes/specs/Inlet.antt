-- What the hub knows of a feed.
use Rattle.std.specs.Prelude.{◌≡◌, ◌≤◌, ℕ, ◌+◌, List, [], ◌∷◌, ◌++◌, Option, Some, None, length, true, false, if◌then◌else◌}
use Rattle.std.specs.List.{slice_get}
use Rattle.fq_lanes.specs.Due.{close_at}
use Rattle.fq_lanes.specs.declared.events.Event.{Event}
use Rattle.fq_lanes.specs.declared.inlet.Inlet.{Inlet}

module _ {F X : Type 0} where
  -- the feed gave these items, and is now as the inlet has it
  pub record GaveOne (gives : F → List X → Type 0) (is_open may_fail : F → Type 0) (most : F → ℕ) (feed : F) (xs : List X) (inlet : Inlet F) : Type 0 where
    pub count : inlet.items ≡ length xs
    pub opens : inlet.ended ≡ false → is_open inlet.feed
    pub room : inlet.ended ≡ false → inlet.items + most inlet.feed ≤ 2147483648
    pub leads : inlet.ended ≡ false → (ys : List X) → gives inlet.feed ys → gives feed (xs ++ ys)
    pub fails : inlet.ended ≡ false → may_fail inlet.feed → may_fail feed
    pub whole : inlet.ended ≡ true → gives feed xs

  -- so for each feed
  abbrev pub Gave : (F → List X → Type 0) → (F → Type 0) → (F → Type 0) → (F → ℕ) → List F → List (List X) → List (Inlet F) → Type 0
  Gave gives is_open may_fail most [] [] [] = Unit {0}
  Gave gives is_open may_fail most [] [] (n ∷ ns) = ⊥
  Gave gives is_open may_fail most [] (xs ∷ items) ns = ⊥
  Gave gives is_open may_fail most (f ∷ fs) [] ns = ⊥
  Gave gives is_open may_fail most (f ∷ fs) (xs ∷ items) [] = ⊥
  Gave gives is_open may_fail most (f ∷ fs) (xs ∷ items) (n ∷ ns) =
      GaveOne gives is_open may_fail most f xs n × Gave gives is_open may_fail most fs items ns

module _ {F : Type 0} where
  -- a feed of which nothing was read
  abbrev pub opened : F → Inlet F
  opened f = record { feed = f; items = 0; ended = false }

  -- the feed may be drained, and fails only if it may
  abbrev pub DrainsOne : (F → Type 0) → (F → Type 0) → F → Inlet F → Type 0
  DrainsOne is_open may_fail feed inlet = inlet.ended ≡ false → is_open inlet.feed × (may_fail inlet.feed → may_fail feed)

  -- at most so many items still come
  abbrev pub left_in : (F → ℕ) → List (Inlet F) → ℕ
  left_in most [] = 0
  left_in most (n ∷ ns) = (if n.ended then 0 else most n.feed) + left_in most ns

  -- the number of a file's items, once its feed has ended
  abbrev pub end_of : Inlet F → Option ℕ
  end_of inlet = if inlet.ended then Some inlet.items else None

module _ {F O : Type 0} where
  -- just the files whose feeds have ended were closed
  abbrev pub ClosesEnded : List (Inlet F) → List (Event O) → Type 0
  ClosesEnded inlets events = (i : ℕ) (inlet : Inlet F) → slice_get inlets i ≡ Some inlet → close_at events i ≡ end_of inlet
