-- A file's counts and slots, when an event is accepted.
use Rattle.std.proofs.Common.{◌≡◌, ◌==◌, ◌&&◌, ◌||◌, ◌≤◌, ◌<◌, ℕ, ◌+◌, List, [], ◌∷◌, ◌++◌, refl, sym, ap, ◌∙◌, arith, Option, Some, None, Bool, true, false, cond, nat_le, nat_lt, max, inl, inr, ◌⊎◌}
use Rattle.std.specs.Option.{is_some}
use Rattle.std.proofs.lemmas.Bool.{eqb-true, eq-eqb, ne_eqb, cases_lt, le-ltb}
use Rattle.std.proofs.lemmas.Bool.Decides.{nat_tests}
use Rattle.std.proofs.Math.Bool.{or-false}
use Rattle.fq_lanes.specs.Due.{offer_at, close_at}
use Rattle.fq_lanes.specs.FileFacts.{FileFacts}
use Rattle.fq_lanes.specs.Refusals.{offers_from, is_past, offer_refusal, close_refusal, file_of}
use Rattle.fq_lanes.proofs.EventLemmas.{or_else, or_else_none, offer_at_append, close_at_append, offer_count_append, offers_from_append, none_from}
use Rattle.fq_lanes.specs.declared.events.Why.{Why}
use Rattle.fq_lanes.specs.declared.events.Why.TheVariants.{Closed, Double, Short}
use Rattle.fq_lanes.specs.declared.events.Event.{Event}
use Rattle.fq_lanes.specs.declared.events.Event.TheVariants.{Offer, Close}

not_past : (closed : Option ℕ) (s : ℕ) → ((n : ℕ) → closed ≡ Some n → n ≤ s → ⊥) → is_past closed s ≡ false
not_past None s h = refl
not_past (Some n) s h = grind (arith, nat_tests, h n refl)

-- one past the greatest serial, with one more serial
top_after : (n s top top' : ℕ) → ((top' ≡ top) × (s < top)) ⊎ ((top' ≡ s + 1) × (top ≤ s)) → (nat_lt n top || nat_le n s) ≡ nat_lt n top'
top_after n s top top' (inl h) = grind (arith, nat_tests)
top_after n s top top' (inr h) = grind (arith, nat_tests)

close_none : (closed : Option ℕ) (from : Bool) → closed ≡ None → from ≡ false → ◌≡◌ {A = Option Why} (cond (is_some closed) (Some Closed) (cond from (Some Short) None)) None
close_none None false e h = refl
close_none None true e h = let bad : ⊥ = cc in absurd bad
close_none (Some n) from e h = let bad : ⊥ = cc in absurd bad

module _ {T : Type 0} where
  refusal_none : (past : Bool) (found : Option T) → past ≡ false → found ≡ None → ◌≡◌ {A = Option Why} (cond past (Some Closed) (cond (is_some found) (Some Double) None)) None
  refusal_none true found e h = let bad : ⊥ = cc in absurd bad
  refusal_none false None e h = refl
  refusal_none false (Some x) e h = let bad : ⊥ = cc in absurd bad

  found_now : (b : Bool) (x : T) (o : Option T) → (b ≡ true → o ≡ None) → or_else o (cond b (Some x) None) ≡ cond b (Some x) o
  found_now true x o h = ap (λ p. or_else p (Some x)) (h refl)
  found_now false x o h = or_else_none o

  still_some : (o p : Option T) → is_some o ≡ true → is_some (or_else o p) ≡ true
  still_some None p e = let bad : ⊥ = cc in absurd bad
  still_some (Some x) p e = refl

  -- an offer is accepted
  pub keeps_offer : (found found' : ℕ → Option T) (count count' taken top top' : ℕ) (closed : Option ℕ) (es : List (Event T)) (f s : ℕ) (x : T)
      → FileFacts found count taken top closed es f
      → ((n : ℕ) → closed ≡ Some n → n ≤ s → ⊥) → taken ≤ s → found s ≡ None
      → ((r : ℕ) → taken ≤ r → found' r ≡ cond (s == r) (Some x) (found r)) → count' ≡ count + 1
      → ((top' ≡ top) × (s < top)) ⊎ ((top' ≡ s + 1) × (top ≤ s))
      → (offer_refusal es f s ≡ None) × FileFacts found' count' taken top' closed (es ++ Offer f s x ∷ []) f
  keeps_offer found found' count count' taken top top' closed es f s x k unclosed at free put more high =
      let self : (f == f) ≡ true = eq-eqb f f refl in
      let none : offer_at es f s ≡ None = k.holding s at ∙ free in
      let past : is_past (close_at es f) s ≡ false = ap (λ c. is_past c s) k.closing ∙ not_past closed s unclosed in
      let now : (r : ℕ) → offer_at (es ++ Offer f s x ∷ []) f r ≡ cond (s == r) (Some x) (offer_at es f r) =
      λ r. offer_at_append es (Offer f s x ∷ []) f r ∙ ap (λ b. or_else (offer_at es f r) (cond (b && (s == r)) (Some x) None)) self
      ∙ found_now (s == r) x (offer_at es f r) (λ e. ap (λ q. offer_at es f q) (sym (eqb-true s r e)) ∙ none) in (
        refusal_none (is_past (close_at es f) s) (offer_at es f s) past none,
        record {
          closing = close_at_append es (Offer f s x ∷ []) f ∙ or_else_none (close_at es f) ∙ k.closing;
          holding = λ r le. now r ∙ ap (λ o. cond (s == r) (Some x) o) (k.holding r le) ∙ sym (put r le);
          gone = λ r lt. ap is_some (offer_at_append es (Offer f s x ∷ []) f r) ∙ still_some (offer_at es f r) (offer_at (Offer f s x ∷ []) f r) (k.gone r lt);
          number = let a = offer_count_append es (Offer f s x ∷ []) f in let b : cond (f == f) 1 0 ≡ 1 = ap (λ t. cond {A = ℕ} t 1 0) self in omega (arith, a, b, k.number, more);
          below = λ n. offers_from_append es (Offer f s x ∷ []) f n ∙ ap (λ b. offers_from es f n || ((b && nat_le n s) || false)) self
              ∙ ap (λ b. offers_from es f n || b) (or-false (nat_le n s)) ∙ ap (λ b. b || nat_le n s) (k.below n) ∙ top_after n s top top' high;
          short = λ n e. elim high [ inl h ↦ omega (arith, h.0, k.short n e) | inr h ↦ let no = unclosed n e in elim (cases_lt s n) [ inl lt ↦ omega (arith, h.0, lt) | inr le ↦ absurd (no le) ] ];
        },
      )

  -- a close is accepted
  pub keeps_close : (found : ℕ → Option T) (count taken top : ℕ) (closed : Option ℕ) (es : List (Event T)) (f n : ℕ)
      → FileFacts found count taken top closed es f → closed ≡ None → top ≤ n
      → (close_refusal es f n ≡ None) × FileFacts found count taken top (Some n) (es ++ Close f n ∷ []) f
  keeps_close found count taken top closed es f n k unclosed le =
      let self : (f == f) ≡ true = eq-eqb f f refl in
      let none : close_at es f ≡ None = k.closing ∙ unclosed in (
        close_none (close_at es f) (offers_from es f n) none (k.below n ∙ le-ltb n top le),
        record {
          closing = close_at_append es (Close f n ∷ []) f ∙ ap (λ o. or_else o (cond (f == f) (Some n) None)) none ∙ ap (λ b. cond b (Some n) None) self;
          holding = λ s at. offer_at_append es (Close f n ∷ []) f s ∙ or_else_none (offer_at es f s) ∙ k.holding s at;
          gone = λ s lt. ap is_some (offer_at_append es (Close f n ∷ []) f s ∙ or_else_none (offer_at es f s)) ∙ k.gone s lt;
          number = let a = offer_count_append es (Close f n ∷ []) f in omega (arith, a, k.number);
          below = λ m. offers_from_append es (Close f n ∷ []) f m ∙ or-false (offers_from es f m) ∙ k.below m;
          short = λ m e. let same : n ≡ m = cc in omega (arith, same, le);
        },
      )

  -- nothing was offered from top on
  pub none_past_top : (found : ℕ → Option T) (count taken top : ℕ) (closed : Option ℕ) (es : List (Event T)) (f s : ℕ)
      → FileFacts found count taken top closed es f → top ≤ s → offer_at es f s ≡ None
  none_past_top found count taken top closed es f s k le = none_from es f top s (k.below top ∙ le-ltb top top (omega arith)) le

  -- an event of another file
  pub keeps_other : (found : ℕ → Option T) (count taken top : ℕ) (closed : Option ℕ) (es : List (Event T)) (f : ℕ) (e : Event T)
      → FileFacts found count taken top closed es f → (file_of e ≡ f → ⊥) → FileFacts found count taken top closed (es ++ e ∷ []) f
  keeps_other found count taken top closed es f (Offer g s x) k ne =
      let other : (g == f) ≡ false = ne_eqb g f ne in
      let now : (r : ℕ) → offer_at (es ++ Offer g s x ∷ []) f r ≡ offer_at es f r =
      λ r. offer_at_append es (Offer g s x ∷ []) f r ∙ ap (λ b. or_else (offer_at es f r) (cond (b && (s == r)) (Some x) None)) other ∙ or_else_none (offer_at es f r) in
      record {
        closing = close_at_append es (Offer g s x ∷ []) f ∙ or_else_none (close_at es f) ∙ k.closing;
        holding = λ r at. now r ∙ k.holding r at;
        gone = λ r lt. ap is_some (now r) ∙ k.gone r lt;
        number = let a = offer_count_append es (Offer g s x ∷ []) f in let b : cond (g == f) 1 0 ≡ 0 = ap (λ t. cond {A = ℕ} t 1 0) other in omega (arith, a, b, k.number);
        below = λ n. offers_from_append es (Offer g s x ∷ []) f n ∙ ap (λ b. offers_from es f n || ((b && nat_le n s) || false)) other ∙ or-false (offers_from es f n) ∙ k.below n;
        short = k.short;
      }
  keeps_other found count taken top closed es f (Close g n) k ne =
      let other : (g == f) ≡ false = ne_eqb g f ne in
      let now : (r : ℕ) → offer_at (es ++ Close g n ∷ []) f r ≡ offer_at es f r = λ r. offer_at_append es (Close g n ∷ []) f r ∙ or_else_none (offer_at es f r) in
      record {
        closing = close_at_append es (Close g n ∷ []) f ∙ ap (λ b. or_else (close_at es f) (cond b (Some n) None)) other ∙ or_else_none (close_at es f) ∙ k.closing;
        holding = λ r at. now r ∙ k.holding r at;
        gone = λ r lt. ap is_some (now r) ∙ k.gone r lt;
        number = let a = offer_count_append es (Close g n ∷ []) f in omega (arith, a, k.number);
        below = λ m. offers_from_append es (Close g n ∷ []) f m ∙ or-false (offers_from es f m) ∙ k.below m;
        short = k.short;
      }

pub top_max : (top s : ℕ) → ((max top (s + 1) ≡ top) × (s < top)) ⊎ ((max top (s + 1) ≡ s + 1) × (top ≤ s))
top_max top s = elim (cases_lt s top) [ inl lt ↦ inl (omega arith, lt) | inr le ↦ inr (omega arith, le) ]
