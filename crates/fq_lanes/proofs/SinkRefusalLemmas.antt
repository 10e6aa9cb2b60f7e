-- The computed refusal, in the words of facts.
use Rattle.std.proofs.Common.{◌≡◌, ◌<◌, ◌≤◌, ℕ, List, Option, Some, None, Bool, true, false, cond, refl, ◌∙◌, nat_le}
use Rattle.std.specs.Option.{is_some}
use Rattle.std.proofs.lemmas.Bool.{leb-true}
use Rattle.fq_lanes.specs.Due.{offer_at, close_at}
use Rattle.fq_lanes.specs.Refusals.{refusal, is_past}
use Rattle.fq_lanes.proofs.SinkLemmas.{refusal_within}
use Rattle.fq_lanes.specs.declared.events.Why.{Why}
use Rattle.fq_lanes.specs.declared.events.Why.TheVariants.{Closed, Double}
use Rattle.fq_lanes.specs.declared.events.Event.{Event}
use Rattle.fq_lanes.specs.declared.events.Event.TheVariants.{Offer}

past_go : (n s : ℕ) (b : Bool) → (b ≡ true → n ≤ s) → (n ≤ s → ⊥) → b ≡ false
past_go n s true h k = absurd (k (h refl))
past_go n s false h k = refl

past_of : (c : Option ℕ) (s : ℕ) → ((n : ℕ) × (c ≡ Some n) × (n ≤ s) → ⊥) → is_past c s ≡ false
past_of None s h = refl
past_of (Some n) s h = past_go n s (nat_le n s) (leb-true n s) (λ le. h (n, refl, le))

module _ {T : Type 0} where
  abbrev pub IsClosed : List (Event T) → ℕ → ℕ → Type 0
  IsClosed events f s = (n : ℕ) × (close_at events f ≡ Some n) × (n ≤ s)

  abbrev pub IsDouble : List (Event T) → ℕ → ℕ → Type 0
  IsDouble events f s = (x : T) × (offer_at events f s ≡ Some x)

  none_go : (past : Bool) (found : Option T) → past ≡ false → ((x : T) × (found ≡ Some x) → ⊥) → ◌≡◌ {A = Option Why} (cond past (Some Closed) (cond (is_some found) (Some Double) None)) None
  none_go true found e h = let bad : ⊥ = cc in absurd bad
  none_go false None e h = refl
  none_go false (Some x) e h = absurd (h (x, refl))

  pub accepts_free : (files : ℕ) (es : List (Event T)) (f s : ℕ) (x : T) → f < files → (IsClosed es f s → ⊥) → (IsDouble es f s → ⊥) → refusal files es (Offer f s x) ≡ None
  accepts_free files es f s x lt c d =
      refusal_within files es (Offer f s x) lt ∙ none_go (is_past (close_at es f) s) (offer_at es f s) (past_of (close_at es f) s c) d
