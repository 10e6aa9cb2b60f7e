-- Eight slots as a map from serials.
use Rattle.std.proofs.Common.{◌≡◌, ◌==◌, ◌≤◌, ◌<◌, ℕ, zero, suc, ◌+◌, ◌%◌, List, [], ◌∷◌, ◌++◌, length, set, refl, sym, ap, ◌∙◌, arith, Option, Some, None, Bool, true, false, cond, nat_lt, nat_le, get_or, inl, inr}
use Rattle.std.specs.Option.{is_some}
use Rattle.std.specs.List.{slice_get}
use Rattle.std.proofs.lemmas.Bool.{eq-eqb, ne_eqb, cases_lt, cases_eq, le-ltb, lt-ltb, lt-leb, le-leb, true≢false}
use Rattle.fq_lanes.specs.Slots.{flat, found_in, held_in}
use Rattle.fq_lanes.specs.Due.{offer_at, close_at, offer_count}
use Rattle.fq_lanes.specs.Refusals.{is_past, offer_refusal, offer_refusal_at}
use Rattle.fq_lanes.specs.declared.events.Why.{Why}
use Rattle.fq_lanes.specs.declared.events.Why.TheVariants.{Closed, Double, Far}
use Rattle.std.proofs.lemmas.Option.{get_or_from_slice_get, slice_get_within}
use Rattle.std.proofs.lemmas.Grind.{common_steps}
use Rattle.fq_lanes.specs.FileFacts.{FileFacts}
use Rattle.fq_lanes.proofs.BesideLemmas.{get_set_same, get_set_other}
use Rattle.fq_lanes.specs.declared.events.Event.{Event}
use Rattle.fq_lanes.specs.declared.file_state.TheConstants.{SLOTS}

window_none : (past double far : Bool) → ◌≡◌ {A = Option Why} (cond past (Some Closed) (cond double (Some Double) None)) None → far ≡ false
    → ◌≡◌ {A = Option Why} (cond past (Some Closed) (cond double (Some Double) (cond far (Some Far) None))) None
window_none true double far h e = h
window_none false true far h e = h
window_none false false true h e = let bad : ⊥ = cc in absurd bad
window_none false false false h e = refl

no_far : (past double far : Bool) → ◌≡◌ {A = Option Why} (cond past (Some Closed) (cond double (Some Double) (cond far (Some Far) None))) None
    → ◌≡◌ {A = Option Why} (cond past (Some Closed) (cond double (Some Double) None)) None
no_far true double far h = h
no_far false true far h = h
no_far false false far h = refl

-- two serials of one window have two slots
apart : (t s r : ℕ) → t ≤ s → s < t + SLOTS → t ≤ r → r < t + SLOTS → (s ≡ r → ⊥) → s % SLOTS ≡ r % SLOTS → ⊥
apart t s r a b c d ne e = omega (arith, ne, e)

wraps : (t r : ℕ) → r ≡ t + SLOTS → r % SLOTS ≡ t % SLOTS
wraps t r e = omega (arith, e)

pub not_far : (t s : ℕ) → nat_le (t + SLOTS) s ≡ false → s < t + SLOTS
not_far t s e = elim (cases_lt s (t + SLOTS)) [ inl lt ↦ lt | inr le ↦ absurd (true≢false (sym (le-leb (t + SLOTS) s le) ∙ e)) ]

pub slot_below : (s : ℕ) → s % SLOTS < SLOTS
slot_below s = omega arith

module _ {T : Type 0} where
  inside : (slots : List (Option T)) (t s : ℕ) → s < t + SLOTS → found_in slots t s ≡ flat (slice_get slots (s % SLOTS))
  inside slots t s lt = ap (λ b. cond b (flat (slice_get slots (s % SLOTS))) None) (lt-ltb s (t + SLOTS) lt)

  outside : (slots : List (Option T)) (t s : ℕ) → t + SLOTS ≤ s → found_in slots t s ≡ None
  outside slots t s le = ap (λ b. cond b (flat (slice_get slots (s % SLOTS))) None) (le-ltb s (t + SLOTS) le)

  pub put_slot : (slots : List (Option T)) (t s r : ℕ) (x : T) → length slots ≡ SLOTS → t ≤ s → s < t + SLOTS → t ≤ r
      → found_in (set slots (s % SLOTS) (Some x)) t r ≡ cond (s == r) (Some x) (found_in slots t r)
  put_slot slots t s r x eight lo hi at =
      elim (cases_eq s r) [
        | inl same ↦
            inside (set slots (s % SLOTS) (Some x)) t r (omega (arith, same, hi))
            ∙ ap (λ q. flat (slice_get (set slots (s % SLOTS) (Some x)) (q % SLOTS))) (sym same)
            ∙ ap flat (get_set_same slots (s % SLOTS) (Some x) (let b = slot_below s in omega (arith, b, eight)))
            ∙ ap (λ b. cond b (Some x) (found_in slots t r)) (sym (eq-eqb s r same))
        | inr ne ↦
            elim (cases_lt r (t + SLOTS)) [
              | inl lt ↦ inside (set slots (s % SLOTS) (Some x)) t r lt ∙ ap flat (get_set_other slots (s % SLOTS) (r % SLOTS) (Some x) (λ e. apart t s r lo hi at lt ne (sym e))) ∙ sym (inside slots t r lt)
              | inr le ↦ outside (set slots (s % SLOTS) (Some x)) t r le ∙ sym (outside slots t r le)
            ]
            ∙ ap (λ b. cond b (Some x) (found_in slots t r)) (sym (ne_eqb s r ne))
      ]

  pub take_slot : (slots : List (Option T)) (t r : ℕ) → length slots ≡ SLOTS → t + 1 ≤ r → found_in (set slots (t % SLOTS) None) (t + 1) r ≡ found_in slots t r
  take_slot slots t r eight at =
      elim (cases_lt r (t + SLOTS)) [
        | inl lt ↦ inside (set slots (t % SLOTS) None) (t + 1) r (omega (arith, lt)) ∙ ap flat (get_set_other slots (t % SLOTS) (r % SLOTS) None (λ e. apart t t r (omega arith) (omega arith) (omega (arith, at)) lt (λ e. omega (arith, e, at)) (sym e))) ∙ sym (inside slots t r lt)
        | inr le ↦
            elim (cases_lt r (t + 1 + SLOTS)) [
              | inl lt ↦
                  inside (set slots (t % SLOTS) None) (t + 1) r lt
                  ∙ (let same : r % SLOTS ≡ t % SLOTS = wraps t r (omega (arith, le, lt)) in ap (λ q. flat (slice_get (set slots (t % SLOTS) None) q)) same)
                  ∙ ap flat (get_set_same slots (t % SLOTS) None (let b = slot_below t in omega (arith, b, eight))) ∙ sym (outside slots t r le)
              | inr far ↦ outside (set slots (t % SLOTS) None) (t + 1) r far ∙ sym (outside slots t r le)
            ]
      ]

  pub free_slot : (slots : List (Option T)) (t s : ℕ) → s < t + SLOTS → slice_get slots (s % SLOTS) ≡ Some None → found_in slots t s ≡ None
  free_slot slots t s lt e = inside slots t s lt ∙ ap flat e

  pub full_slot : (slots : List (Option T)) (t s : ℕ) (x : T) → s < t + SLOTS → slice_get slots (s % SLOTS) ≡ Some (Some x) → found_in slots t s ≡ Some x
  full_slot slots t s x lt e = inside slots t s lt ∙ ap flat e

  -- the next item is handed out
  pub keeps_next : (found found' : ℕ → Option T) (count count' taken top : ℕ) (closed : Option ℕ) (es : List (Event T)) (f : ℕ) (y : T)
      → FileFacts found count taken top closed es f → found taken ≡ Some y → ((r : ℕ) → taken + 1 ≤ r → found' r ≡ found r) → count' + 1 ≡ count
      → FileFacts found' count' (taken + 1) top closed es f × (offer_at es f taken ≡ Some y) × (taken < offer_count es f)
  keeps_next found found' count count' taken top closed es f y k here rest less =
      let at : offer_at es f taken ≡ Some y = k.holding taken (omega arith) ∙ here in (
        record {
          closing = k.closing;
          holding = λ s le. k.holding s (omega (arith, le)) ∙ sym (rest s le);
          gone = λ s lt. elim (cases_lt s taken) [ inl low ↦ k.gone s low | inr le ↦ let same : s ≡ taken = omega (arith, le, lt) in ap (λ q. is_some (offer_at es f q)) same ∙ ap is_some at ];
          number = omega (arith, k.number, less);
          below = k.below;
          short = k.short;
        },
        at,
        omega (arith, k.number, less),
      )

  pub within_window : (es : List (Event T)) (f s taken : ℕ) → offer_refusal es f s ≡ None → s < taken + SLOTS → offer_refusal_at es f s taken ≡ None
  within_window es f s taken h lt = window_none (is_past (close_at es f) s) (is_some (offer_at es f s)) (nat_le (taken + SLOTS) s) h (lt-leb (taken + SLOTS) s lt)

  pub held_put : (slots : List (Option T)) (i : ℕ) (x : T) → slice_get slots i ≡ Some None → held_in (set slots i (Some x)) ≡ held_in slots + 1
  held_put slots i x e =
      let at : get_or slots i None ≡ None = get_or_from_slice_get slots i None None e in
      let lt = slice_get_within slots i None e in
      grind (arith, common_steps, at, lt)

  pub held_take : (slots : List (Option T)) (i : ℕ) (x : T) → slice_get slots i ≡ Some (Some x) → held_in (set slots i None) + 1 ≡ held_in slots
  held_take slots i x e =
      let at : get_or slots i None ≡ Some x = get_or_from_slice_get slots i (Some x) None e in
      let lt = slice_get_within slots i (Some x) e in
      grind (arith, common_steps, at, lt)

  pub no_window : (es : List (Event T)) (f s taken : ℕ) → offer_refusal_at es f s taken ≡ None → offer_refusal es f s ≡ None
  no_window es f s taken h = no_far (is_past (close_at es f) s) (is_some (offer_at es f s)) (nat_le (taken + SLOTS) s) h

  pub push_empty : (slots : List (Option T)) (i : ℕ) → flat (slice_get slots i) ≡ None → flat (slice_get (slots ++ None ∷ []) i) ≡ None
  push_empty [] zero e = refl
  push_empty [] (suc i) e = refl
  push_empty (o ∷ slots) zero e = e
  push_empty (o ∷ slots) (suc i) e = push_empty slots i e

  cond_none : (b : Bool) (o : Option T) → o ≡ None → cond b o None ≡ None
  cond_none true o e = e
  cond_none false o e = refl

  pub empty_follows : (slots : List (Option T)) (f : ℕ) → ((i : ℕ) → flat (slice_get slots i) ≡ None) → held_in slots ≡ 0 → FileFacts (found_in slots 0) (held_in slots) 0 0 None [] f
  empty_follows slots f none zero_held = record {
    closing = refl;
    holding = λ s le. sym (cond_none (nat_lt s (0 + SLOTS)) (flat (slice_get slots (s % SLOTS))) (none (s % SLOTS)));
    gone = λ s lt. absurd (omega (arith, lt));
    number = omega (arith, zero_held);
    below = λ n. sym (le-ltb n 0 (omega arith));
    short = λ n e. omega arith;
  }
