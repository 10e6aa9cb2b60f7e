-- What was accepted, when more is accepted.
use Rattle.std.proofs.Common.{◌≡◌, ◌==◌, ◌&&◌, ◌||◌, ◌≤◌, ℕ, suc, ◌+◌, List, [], ◌∷◌, ◌++◌, length, refl, sym, ap, ◌∙◌, arith, Option, Some, None, Bool, true, false, cond, nat_le}
use Rattle.std.specs.Option.{is_some}
use Rattle.std.proofs.lemmas.Bool.{or_parts, le-leb, ne_eqb, true≢false}
use Rattle.fq_lanes.specs.Due.{offer_at, close_at, offer_count}
use Rattle.fq_lanes.specs.Refusals.{offers_from}
use Rattle.fq_lanes.specs.declared.events.Event.{Event}
use Rattle.fq_lanes.specs.declared.events.Event.TheVariants.{Offer, Close}

module _ {A : Type 0} where
  abbrev pub or_else : Option A → Option A → Option A
  or_else None o = o
  or_else (Some x) o = Some x

  pub or_else_none : (o : Option A) → or_else o None ≡ o
  or_else_none None = refl
  or_else_none (Some x) = refl

  cond_else : (b : Bool) (x : A) (o p : Option A) → cond b (Some x) (or_else o p) ≡ or_else (cond b (Some x) o) p
  cond_else true x o p = refl
  cond_else false x o p = refl

  pub none_of : (o : Option A) → is_some o ≡ false → o ≡ None
  none_of None e = refl
  none_of (Some x) e = let bad : ⊥ = cc in absurd bad

or_assoc : (a b c : Bool) → (a || (b || c)) ≡ ((a || b) || c)
or_assoc true b c = refl
or_assoc false b c = refl

one_at_most : (b : Bool) (k n : ℕ) → k ≤ n → cond b 1 0 + k ≤ suc n
one_at_most true k n le = omega arith
one_at_most false k n le = omega arith

module _ {T : Type 0} where
  pub offer_at_append : (es ds : List (Event T)) (f s : ℕ) → offer_at (es ++ ds) f s ≡ or_else (offer_at es f s) (offer_at ds f s)
  offer_at_append [] ds f s = refl
  offer_at_append (Offer g r x ∷ es) ds f s =
      ap (λ o. cond ((g == f) && (r == s)) (Some x) o) (offer_at_append es ds f s) ∙ cond_else ((g == f) && (r == s)) x (offer_at es f s) (offer_at ds f s)
  offer_at_append (Close g n ∷ es) ds f s = offer_at_append es ds f s

  pub close_at_append : (es ds : List (Event T)) (f : ℕ) → close_at (es ++ ds) f ≡ or_else (close_at es f) (close_at ds f)
  close_at_append [] ds f = refl
  close_at_append (Offer g r x ∷ es) ds f = close_at_append es ds f
  close_at_append (Close g n ∷ es) ds f =
      ap (λ o. cond (g == f) (Some n) o) (close_at_append es ds f) ∙ cond_else (g == f) n (close_at es f) (close_at ds f)

  pub offer_count_append : (es ds : List (Event T)) (f : ℕ) → offer_count (es ++ ds) f ≡ offer_count es f + offer_count ds f
  offer_count_append [] ds f = omega arith
  offer_count_append (Offer g r x ∷ es) ds f = let e = offer_count_append es ds f in omega (arith, e)
  offer_count_append (Close g n ∷ es) ds f = offer_count_append es ds f

  pub offers_from_append : (es ds : List (Event T)) (f n : ℕ) → offers_from (es ++ ds) f n ≡ (offers_from es f n || offers_from ds f n)
  offers_from_append [] ds f n = refl
  offers_from_append (Offer g r x ∷ es) ds f n =
      ap (λ o. ((g == f) && nat_le n r) || o) (offers_from_append es ds f n) ∙ or_assoc ((g == f) && nat_le n r) (offers_from es f n) (offers_from ds f n)
  offers_from_append (Close g m ∷ es) ds f n = offers_from_append es ds f n

  none_step : (b : Bool) (n r s : ℕ) (x : T) (o : Option T) → (b && nat_le n r) ≡ false → n ≤ s → o ≡ None → cond (b && (r == s)) (Some x) o ≡ None
  none_step true n r s x o e le h =
      let ne : r ≡ s → ⊥ = λ same. true≢false (sym (le-leb n r (omega (arith, le, same))) ∙ e) in
      ap (λ b. cond b (Some x) o) (ne_eqb r s ne) ∙ h
  none_step false n r s x o e le h = h

  -- if no offer has a serial from n on, none is found
  pub none_from : (es : List (Event T)) (f n s : ℕ) → offers_from es f n ≡ false → n ≤ s → offer_at es f s ≡ None
  none_from [] f n s e le = refl
  none_from (Offer g r x ∷ es) f n s e le =
      let parts = or_parts ((g == f) && nat_le n r) (offers_from es f n) e in
      none_step (g == f) n r s x (offer_at es f s) parts.0 le (none_from es f n s parts.1 le)
  none_from (Close g m ∷ es) f n s e le = none_from es f n s e le

  pub offer_count_within : (es : List (Event T)) (f : ℕ) → offer_count es f ≤ length es
  offer_count_within [] f = omega arith
  offer_count_within (Offer g r x ∷ es) f = one_at_most (g == f) (offer_count es f) (length es) (offer_count_within es f)
  offer_count_within (Close g n ∷ es) f = let e = offer_count_within es f in omega (arith, e)
