-- The engine's books: each item that was read waits for its work, or its work was offered, once.
use Rattle.std.specs.Prelude.{◌≡◌, ◌==◌, ◌&&◌, ℕ, ◌+◌, List, [], ◌∷◌, Some, length, if◌then◌else◌}
use Rattle.std.specs.List.{slice_get}
use Rattle.std.specs.Option.{is_some}
use Rattle.fq_lanes.specs.Due.{offer_at, close_at}
use Rattle.fq_lanes.specs.Numbering.{item_at}
use Rattle.fq_lanes.specs.declared.events.Event.{Event}
use Rattle.fq_lanes.specs.declared.events.Event.TheVariants.{Offer, Close}

-- 1 if the pair of a and b is that of f and s
abbrev pub one_if : ℕ → ℕ → ℕ → ℕ → ℕ
one_if f s a b = if (a == f) && (b == s) then 1 else 0

-- how often the pair of f and s stands in the list
abbrev pub times : ℕ → ℕ → List (ℕ × ℕ) → ℕ
times f s [] = 0
times f s (p ∷ ps) = one_if f s p.0 p.1 + times f s ps

module _ {O : Type 0} where
  -- how often an item of f and s was offered
  abbrev pub offered : ℕ → ℕ → List (Event O) → ℕ
  offered f s [] = 0
  offered f s (Offer a b x ∷ es) = one_if f s a b + offered f s es
  offered f s (Close a n ∷ es) = offered f s es

module _ {X : Type 0} where
  -- 1 if file f has an item with serial s
  abbrev pub given : List (List X) → ℕ → ℕ → ℕ
  given items f s = if is_some (item_at items f s) then 1 else 0

-- nothing waits
abbrev pub none_waits : ℕ → ℕ → ℕ
none_waits f s = 0

module _ {X O : Type 0} where
  -- waiting f s says how often the work on the item of f and s is still to be offered
  pub record Books (items : List (List X)) (waiting : ℕ → ℕ → ℕ) (events : List (Event O)) : Type 0 where
    pub balanced : (f s : ℕ) → waiting f s + offered f s events ≡ given items f s
    pub closes : (f n : ℕ) → close_at events f ≡ Some n → (xs : List X) × (slice_get items f ≡ Some xs) × (n ≡ length xs)

  -- what was offered is the work on the item of its numbers
  abbrev pub OffersWorked : (ℕ → X → O → Type 0) → List (List X) → List (Event O) → Type 0
  OffersWorked works items events = (f s : ℕ) (o : O) → offer_at events f s ≡ Some o → (x : X) × (item_at items f s ≡ Some x) × works f x o

  -- more items were read, and nothing was offered meanwhile
  pub record Reads (items items' : List (List X)) (events events' : List (Event O)) : Type 0 where
    pub offers : (f s : ℕ) → offer_at events' f s ≡ offer_at events f s
    pub stays : (f s : ℕ) (x : X) → item_at items f s ≡ Some x → item_at items' f s ≡ Some x
