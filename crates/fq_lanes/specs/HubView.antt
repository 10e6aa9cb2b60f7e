-- What the hub takes from the feeds' lanes and from the workers'.
use Rattle.std.specs.Prelude.{◌≡◌, ◌||◌, ℕ, List, [], ◌∷◌, drop, length, map, Option, Some, None, Bool, false, Result, is_err}
use Rattle.std.specs.List.{list_any, slice_get}
use mathlib.Core.List.{IsPrefix}
use Rattle.fq_lanes.specs.declared.faults.FeedFault.{FeedFault}
use Rattle.fq_lanes.specs.declared.faults.Memory.{Memory}
use Rattle.fq_lanes.specs.declared.messages.FromFeed.{FromFeed}
use Rattle.fq_lanes.specs.declared.messages.FromFeed.TheVariants.{Item, End}
use Rattle.fq_lanes.specs.declared.messages.ToWorker.{ToWorker}
use Rattle.fq_lanes.specs.WorkerThread.{Replied}

module _ {X : Type 0} where
  -- the items before the first end
  abbrev pub items_of : List (FromFeed X) → List X
  items_of [] = []
  items_of (Item x ∷ ts) = x ∷ items_of ts
  items_of (End e ∷ ts) = []

  -- the first end
  abbrev pub end_told : List (FromFeed X) → Option (Option FeedFault)
  end_told [] = None
  end_told (Item x ∷ ts) = end_told ts
  end_told (End e ∷ ts) = Some e

-- a feed's lane: what was taken from it, how many items, and whether it has ended
pub record FeedView (X : Type 0) : Type 0 where
  pub told : List (FromFeed X)
  pub items : ℕ
  pub ended : Bool

-- a worker's lanes: the jobs given, the answers taken, and the numbers of the jobs that have no answer yet
pub record WorkerView (X O : Type 0) : Type 0 where
  pub jobs : List (ToWorker X)
  pub answers : List (Result O Memory)
  pub outstanding : List (ℕ × ℕ)

module _ {A : Type 0} where
  -- what stands in the one list stands, grown, at its place in the other
  abbrev pub Grows : (A → A → Type 0) → List A → List A → Type 0
  Grows R old new = (i : ℕ) (x : A) → slice_get old i ≡ Some x → (y : A) × (slice_get new i ≡ Some y) × R x y

module _ {X : Type 0} where
  abbrev pub told_in : List (FeedView X) → List (List (FromFeed X))
  told_in vs = map (λ v. v.told) vs

  -- the items of all files, as far as they were taken
  abbrev pub items_in : List (List (FromFeed X)) → List (List X)
  items_in messages = map items_of messages

  -- this was told
  abbrev pub Tells : List (FromFeed X) → FromFeed X → Type 0
  Tells told t = (i : ℕ) × (slice_get told i ≡ Some t)

module _ {X O : Type 0} where
  abbrev pub WorkerGrows : WorkerView X O → WorkerView X O → Type 0
  WorkerGrows d e = IsPrefix d.jobs e.jobs × IsPrefix d.answers e.answers

  -- each worker answered the jobs that it was given
  abbrev pub AllReplied : (ℕ → X → O → Type 0) → List (WorkerView X O) → Type 0
  AllReplied works [] = Unit {0}
  AllReplied works (d ∷ ds) = Replied works d.jobs d.answers × AllReplied works ds

  -- whether work was refused whose answer was taken between two views of a worker
  abbrev pub refused_between : WorkerView X O → WorkerView X O → Bool
  refused_between old new = list_any is_err (drop (length old.answers) new.answers)

  -- the same of one of several workers
  abbrev pub any_refused : List (WorkerView X O) → List (WorkerView X O) → Bool
  any_refused [] news = false
  any_refused (d ∷ ds) [] = false
  any_refused (d ∷ ds) (e ∷ es) = refused_between d e || any_refused ds es
