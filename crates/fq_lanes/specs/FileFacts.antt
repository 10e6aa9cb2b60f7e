-- What a file's counts and its slots say of the events that were accepted.
use Rattle.std.specs.Prelude.{◌≡◌, ◌<◌, ◌≤◌, ◌+◌, ℕ, List, Option, Some, true, nat_lt}
use Rattle.std.specs.Option.{is_some}
use Rattle.fq_lanes.specs.Due.{offer_at, close_at, offer_count}
use Rattle.fq_lanes.specs.Refusals.{offers_from}
use Rattle.fq_lanes.specs.declared.events.Event.{Event}

module _ {T : Type 0} where
  -- of file f: what is held at a serial, how many are held, how many were taken, one past the greatest serial, the close
  pub record FileFacts (found : ℕ → Option T) (count taken top : ℕ) (closed : Option ℕ) (es : List (Event T)) (f : ℕ) : Type 0 where
    pub closing : close_at es f ≡ closed
    pub holding : (s : ℕ) → taken ≤ s → offer_at es f s ≡ found s
    pub gone : (s : ℕ) → s < taken → is_some (offer_at es f s) ≡ true
    pub number : offer_count es f ≡ taken + count
    pub below : (n : ℕ) → offers_from es f n ≡ nat_lt n top
    pub short : (n : ℕ) → closed ≡ Some n → top ≤ n
