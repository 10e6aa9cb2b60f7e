-- What is due stays due.
use Rattle.std.proofs.Common.{◌≡◌, ◌==◌, ◌&&◌, ◌≤◌, ℕ, zero, suc, ◌+◌, List, [], ◌∷◌, ◌++◌, length, length-append, map, refl, sym, subst, ap, ◌∙◌, arith, Option, Some, None, Bool, true, false, cond, append_assoc, nat_lt}
use mathlib.Core.List.{IsPrefix}
use Rattle.std.specs.List.{slice_get, enumerate_from}
use Rattle.std.specs.Option.{is_some}
use Rattle.std.proofs.lemmas.Bool.{eqb-true, le-leb, true≢false}
use Rattle.std.proofs.lemmas.List.{append-nil}
use Rattle.fq_lanes.specs.Due.{due, offer_at, close_at, Extends, ClosesHold}
use Rattle.fq_lanes.specs.Refusals.{refusal, offer_refusal, close_refusal, offers_from, is_past, AcceptedAfter, Accepted, after, accepted_of, refused_one, refused_of, item_of, refusal_now, refusal_at}
use Rattle.fq_lanes.proofs.EventLemmas.{or_else, or_else_none, offer_at_append, close_at_append, none_from}
use Rattle.fq_lanes.proofs.DuePrefixLemmas.{due_on}
use Rattle.fq_lanes.specs.declared.events.Why.{Why}
use Rattle.fq_lanes.specs.declared.events.Why.TheVariants.{Stranger, Closed, Double, Short}
use Rattle.fq_lanes.specs.declared.events.Event.{Event}
use Rattle.fq_lanes.specs.declared.events.Event.TheVariants.{Offer, Close}

-- a rule that did not refuse did not hold
pub rule_off : (b : Bool) (w : Why) (o : Option Why) → cond b (Some w) o ≡ None → (b ≡ false) × (o ≡ None)
rule_off true w o e = let bad : ⊥ = cc in absurd bad
rule_off false w o e = (refl, e)

pub known_file : (b : Bool) (w : Why) (o : Option Why) → cond b o (Some w) ≡ None → o ≡ None
known_file true w o e = e
known_file false w o e = let bad : ⊥ = cc in absurd bad

past_from : (closed : Option ℕ) (n s : ℕ) → closed ≡ Some n → n ≤ s → is_past closed s ≡ true
past_from None n s e le = let bad : ⊥ = cc in absurd bad
past_from (Some m) n s e le = let same : m ≡ n = cc in le-leb m s (omega (arith, same, le))

first_close : (c : Option ℕ) (b : Bool) (n m : ℕ) (P : Type 0) → or_else c (cond b (Some n) None) ≡ Some m → (c ≡ Some m → P) → (b ≡ true → n ≡ m → P) → P
first_close None true n m P e h k = k refl (cc)
first_close None false n m P e h k = let bad : ⊥ = cc in absurd bad
first_close (Some q) b n m P e h k = h e

module _ {T : Type 0} where
  pub extends_more : (es ds : List (Event T)) → Extends es (es ++ ds)
  extends_more es ds = (
    (λ f s x e. offer_at_append es ds f s ∙ ap (λ q. or_else q (offer_at ds f s)) e),
    (λ f n e. close_at_append es ds f ∙ ap (λ q. or_else q (close_at ds f)) e),
    omega (arith, length-append es ds),
  )

  offer_kept : (a b past : Bool) (x : T) → (a ≡ true → b ≡ true → past ≡ true) → past ≡ false → cond (a && b) (Some x) None ≡ None
  offer_kept true true past x h e = absurd (true≢false (sym (h refl refl) ∙ e))
  offer_kept true false past x h e = refl
  offer_kept false b past x h e = refl

  closes_hold_more : (files : ℕ) (es : List (Event T)) (e : Event T) → ClosesHold es → refusal files es e ≡ None → ClosesHold (es ++ e ∷ [])
  closes_hold_more files es (Offer f s x) h free g n r e le =
      let fine = known_file (nat_lt f files) Stranger (offer_refusal es f s) free in
      let past = (rule_off (is_past (close_at es f) s) Closed (cond (is_some (offer_at es f s)) (Some Double) None) fine).0 in
      let closed : close_at es g ≡ Some n = sym (close_at_append es (Offer f s x ∷ []) g ∙ or_else_none (close_at es g)) ∙ e in
      offer_at_append es (Offer f s x ∷ []) g r
      ∙ ap (λ o. or_else o (cond ((f == g) && (s == r)) (Some x) None)) (h g n r closed le)
      ∙ offer_kept (f == g) (s == r) (is_past (close_at es f) s) x
      (λ a b. past_from (close_at es f) n s (ap (close_at es) (eqb-true f g a) ∙ closed) (let same = eqb-true s r b in omega (arith, same, le))) past
  closes_hold_more files es (Close f m) h free g n r e le =
      let fine = known_file (nat_lt f files) Stranger (close_refusal es f m) free in
      let none = (rule_off (offers_from es f m) Short None (rule_off (is_some (close_at es f)) Closed (cond (offers_from es f m) (Some Short) None) fine).1).0 in
      offer_at_append es (Close f m ∷ []) g r ∙ or_else_none (offer_at es g r)
      ∙ first_close (close_at es g) (f == g) m n (offer_at es g r ≡ None) (sym (close_at_append es (Close f m ∷ []) g) ∙ e)
      (λ old. h g n r old le)
      (λ at same. subst (λ q. offer_at es q r ≡ None) (eqb-true f g at) (none_from es f m r none (omega (arith, same, le))))

  pub closes_hold : (files : ℕ) (before es : List (Event T)) → ClosesHold before → AcceptedAfter files before es → ClosesHold (before ++ es)
  closes_hold files before [] h a = subst (λ l. ClosesHold l) (sym (append-nil before)) h
  closes_hold files before (e ∷ es) h a =
      subst (λ l. ClosesHold l) (append_assoc before (e ∷ []) es)
      (closes_hold files (before ++ e ∷ []) es (closes_hold_more files before e h a.0) a.1)

  no_closes : ClosesHold {T = T} []
  no_closes f n s e le = refl

  -- what is due of a part of the accepted events, in their order, begins what is due of all
  pub due_grows : (files : ℕ) (es ds : List (Event T)) → Accepted files (es ++ ds) → IsPrefix (due es files) (due (es ++ ds) files)
  due_grows files es ds a = due_on es (es ++ ds) zero files (extends_more es ds) (closes_hold files [] (es ++ ds) no_closes a)

  -- one more event of a list
  pub accepted_of_push : (files : ℕ) (before es : List (Event T)) (e : Event T)
      → accepted_of files before (es ++ e ∷ []) ≡ after (refusal_now files (accepted_of files before es) e) (accepted_of files before es) e
  accepted_of_push files before [] e = refl
  accepted_of_push files before (d ∷ es) e = accepted_of_push files (after (refusal_now files before d) before d) es e

  pub refused_of_push : (files number : ℕ) (before es : List (Event T)) (e : Event T)
      → refused_of files number before (es ++ e ∷ []) ≡ refused_of files number before es ++ refused_one (refusal_now files (accepted_of files before es) e) (number + length es) e
  refused_of_push files number before [] e =
      let z : number ≡ number + length {A = Event T} [] = omega arith in append-nil (refused_one (refusal_now files before e) number e) ∙ ap (λ n. refused_one (refusal_now files before e) n e) z
  refused_of_push files number before (d ∷ es) e =
      let now = after (refusal_now files before d) before d in
      let z : suc number + length es ≡ number + length (d ∷ es) = omega arith in
      ap (λ l. refused_one (refusal_now files before d) number d ++ l) (refused_of_push files (suc number) now es e
      ∙ ap (λ n. refused_of files (suc number) now es ++ refused_one (refusal_now files (accepted_of files now es) e) n e) z)
      ∙ sym (append_assoc (refused_one (refusal_now files before d) number d) (refused_of files (suc number) now es) (refused_one (refusal_now files (accepted_of files now es) e) (number + length (d ∷ es)) e))

  -- what a sink was told
  pub tell_none : (files t number : ℕ) (es : List (Event T)) (e e' : Event T) (P : List (Event T) → Type 0) → e ≡ e' → refusal_at files es t e' ≡ None → P (es ++ e' ∷ [])
      → P (after (refusal_at files es t e) es e) × ([] ≡ refused_one (refusal_at files es t e) number e)
  tell_none files t number es e e' P is free h =
      subst (λ d. P (after (refusal_at files es t d) es d) × ([] ≡ refused_one (refusal_at files es t d) number d)) (sym is)
      (subst (λ r. P (after r es e') × ([] ≡ refused_one r number e')) (sym free) (h, refl))

  pub tell_some : (files t number : ℕ) (es : List (Event T)) (e e' : Event T) (P : List (Event T) → Type 0) (rule : Why) → e ≡ e' → refusal_at files es t e' ≡ Some rule → P es
      → P (after (refusal_at files es t e) es e) × (record { event = number; why = rule; item = item_of e' } ∷ [] ≡ refused_one (refusal_at files es t e) number e)
  tell_some files t number es e e' P rule is free h =
      subst (λ d. P (after (refusal_at files es t d) es d) × (record { event = number; why = rule; item = item_of e' } ∷ [] ≡ refused_one (refusal_at files es t d) number d)) (sym is)
      (subst (λ r. P (after r es e') × (record { event = number; why = rule; item = item_of e' } ∷ [] ≡ refused_one r number e')) (sym free) (h, refl))

  pub due_after : (files : ℕ) (rule : Option Why) (es : List (Event T)) (e : Event T) → Accepted files (after rule es e) → IsPrefix (due es files) (due (after rule es e) files)
  due_after files None es e a = due_grows files es (e ∷ []) a
  due_after files (Some w) es e a = ([], append-nil (due es files))

  pub events_push : (given : List (ℕ × Event T)) (number : ℕ) (e : Event T) → map {A = ℕ × Event T} {B = Event T} (λ p. p.1) (given ++ (number, e) ∷ []) ≡ map {A = ℕ × Event T} {B = Event T} (λ p. p.1) given ++ e ∷ []
  events_push [] number e = refl
  events_push (p ∷ given) number e = ap (λ l. p.1 ∷ l) (events_push given number e)

  pub events_length : (given : List (ℕ × Event T)) → length (map {A = ℕ × Event T} {B = Event T} (λ p. p.1) given) ≡ length given
  events_length [] = refl
  events_length (p ∷ given) = omega (arith, events_length given)

  pub events_of : (n : ℕ) (es : List (Event T)) → map {A = ℕ × Event T} {B = Event T} (λ p. p.1) (enumerate_from n es) ≡ es
  events_of n [] = refl
  events_of n (e ∷ es) = ap (λ l. e ∷ l) (events_of (n + 1) es)

  again : (given : List (ℕ × Event T)) → map {A = ℕ × Event T} {B = Event T} (λ p. p.1) given ≡ map {A = ℕ × Event T} {B = Event T} (λ p. p.1) (map {A = ℕ × Event T} {B = ℕ × Event T} (λ p. (p.0, p.1)) given)
  again [] = refl
  again (p ∷ given) = ap (λ l. p.1 ∷ l) (again given)

  pub events_same : (given : List (ℕ × Event T)) (es : List (Event T)) → map {A = ℕ × Event T} {B = ℕ × Event T} (λ p. (p.0, p.1)) given ≡ enumerate_from 0 es → map {A = ℕ × Event T} {B = Event T} (λ p. p.1) given ≡ es
  events_same given es e = again given ∙ ap (λ l. map {A = ℕ × Event T} {B = Event T} (λ p. p.1) l) e ∙ events_of 0 es

module _ {A : Type 0} where
  -- a list that begins another, and the next item of that
  pub prefix_push : (xs ys : List A) (x : A) → IsPrefix xs ys → slice_get ys (length xs) ≡ Some x → IsPrefix (xs ++ x ∷ []) ys
  prefix_push [] [] x p e = let bad : ⊥ = cc in absurd bad
  prefix_push [] (y ∷ ys) x p e = let same : x ≡ y = cc in (ys, ap (λ z. z ∷ ys) same)
  prefix_push (z ∷ xs) [] x (t, p) e = let bad : ⊥ = cc in absurd bad
  prefix_push (z ∷ xs) (y ∷ ys) x (t, p) e =
      let first : z ≡ y = cc in
      let rest : xs ++ t ≡ ys = cc in
      let more = prefix_push xs ys x (t, rest) e in
      (more.0, ap (λ w. w ∷ ((xs ++ x ∷ []) ++ more.0)) first ∙ ap (λ l. y ∷ l) more.1)
