-- What is due is told by which events were accepted.
use Rattle.std.proofs.Common.{◌≡◌, ◌==◌, ◌&&◌, ◌≤◌, ◌<◌, ◌↔◌, ℕ, zero, suc, ◌+◌, List, [], ◌∷◌, ◌++◌, length, refl, sym, ap, ◌∙◌, arith, append_assoc, Contains, Option, Some, None, Bool, true, false, cond, nat_lt, inl, inr, ◌⊎◌}
use Rattle.std.specs.Option.{is_some}
use Rattle.std.proofs.lemmas.Bool.{eqb-true, eq-eqb, cases_lt}
use Rattle.fq_lanes.specs.Due.{offer_at, close_at, ready_step, ready_from, ready, is_closed_at, is_complete, due_from, due}
use Rattle.fq_lanes.specs.Refusals.{refusal, offer_refusal, close_refusal, offers_from, is_past, AcceptedAfter, Accepted}
use Rattle.fq_lanes.specs.Ledger.{offered}
use Rattle.fq_lanes.proofs.CountingLemmas.{enough}
use Rattle.fq_lanes.proofs.EventLemmas.{or_else, offer_at_append, close_at_append, none_of}
use Rattle.fq_lanes.proofs.DueLemmas.{rule_off, known_file}
use Rattle.fq_lanes.proofs.LedgerLemmas.{never_offered}
use Rattle.fq_lanes.proofs.DuePrefixLemmas.{prefix_equal, ready_on}
use Rattle.fq_lanes.proofs.ReadyLemmas.{ready_reaches}
use Rattle.fq_lanes.specs.declared.events.Why.{Why}
use Rattle.fq_lanes.specs.declared.events.Why.TheVariants.{Stranger, Closed, Double, Short}
use Rattle.fq_lanes.specs.declared.events.Event.{Event}
use Rattle.fq_lanes.specs.declared.events.Event.TheVariants.{Offer, Close}

module _ {A : Type 0} where
  first_or_rest : (x : A) (xs : List A) (y : A) → Contains (x ∷ xs) y → (x ≡ y) ⊎ Contains xs y
  first_or_rest x xs y (zero, lt, e) = inl e
  first_or_rest x xs y (suc k, lt, e) = inr (k, omega (arith, lt), e)

  later : (x : A) (xs : List A) (y : A) → Contains xs y → Contains (x ∷ xs) y
  later x xs y (k, lt, e) = (suc k, omega (arith, lt), e)

  same_lookup : (o p : Option A) → ((x : A) → o ≡ Some x → p ≡ Some x) → ((x : A) → p ≡ Some x → o ≡ Some x) → o ≡ p
  same_lookup None None h k = refl
  same_lookup None (Some x) h k = let e = k x refl in let bad : ⊥ = cc in absurd bad
  same_lookup (Some x) p h k = sym (h x refl)

close_new : (b : Bool) (o : Option ℕ) → (cond {A = Option Why} (is_some o) (Some Closed) (cond b (Some Short) None) ≡ None) → o ≡ None
close_new b o e = none_of o (rule_off (is_some o) Closed (cond b (Some Short) None) e).0

module _ {T : Type 0} where
  offer_step : (g r f s : ℕ) (a b : Bool) (x y : T) (rest : Option T) (es : List (Event T)) → (a ≡ true → g ≡ f) → (b ≡ true → r ≡ s)
      → cond (a && b) (Some x) rest ≡ Some y → (rest ≡ Some y → Contains es (Offer f s y)) → Contains (Offer g r x ∷ es) (Offer f s y)
  offer_step g r f s true true x y rest es p q e h =
      let same : x ≡ y = cc in
      (zero, omega arith, ap (λ n. Offer n r x) (p refl) ∙ ap (λ n. Offer f n x) (q refl) ∙ ap (λ z. Offer f s z) same)
  offer_step g r f s true false x y rest es p q e h = later (Offer g r x) es (Offer f s y) (h e)
  offer_step g r f s false b x y rest es p q e h = later (Offer g r x) es (Offer f s y) (h e)

  -- an offer that is found is among the events
  offer_among : (es : List (Event T)) (f s : ℕ) (y : T) → offer_at es f s ≡ Some y → Contains es (Offer f s y)
  offer_among [] f s y e = let bad : ⊥ = cc in absurd bad
  offer_among (Offer g r x ∷ es) f s y e = offer_step g r f s (g == f) (r == s) x y (offer_at es f s) es (eqb-true g f) (eqb-true r s) e (offer_among es f s y)
  offer_among (Close g n ∷ es) f s y e = later (Close g n) es (Offer f s y) (offer_among es f s y e)

  close_step : (g f n m : ℕ) (a : Bool) (rest : Option ℕ) (es : List (Event T)) → (a ≡ true → g ≡ f)
      → cond a (Some n) rest ≡ Some m → (rest ≡ Some m → Contains es (Close f m)) → Contains (Close g n ∷ es) (Close f m)
  close_step g f n m true rest es p e h = let same : n ≡ m = cc in (zero, omega arith, ap (λ k. Close k n) (p refl) ∙ ap (λ k. Close f k) same)
  close_step g f n m false rest es p e h = later (Close g n) es (Close f m) (h e)

  close_among : (es : List (Event T)) (f m : ℕ) → close_at es f ≡ Some m → Contains es (Close f m)
  close_among [] f m e = let bad : ⊥ = cc in absurd bad
  close_among (Offer g r x ∷ es) f m e = later (Offer g r x) es (Close f m) (close_among es f m e)
  close_among (Close g n ∷ es) f m e = close_step g f n m (g == f) (close_at es f) es (eqb-true g f) e (close_among es f m)

  offer_new : (b : Bool) (o : Option T) → (cond {A = Option Why} b (Some Closed) (cond (is_some o) (Some Double) None) ≡ None) → o ≡ None
  offer_new b o e = none_of o (rule_off (is_some o) Double None (rule_off b Closed (cond (is_some o) (Some Double) None) e).1).0

  -- an accepted offer is found
  offer_there : (files : ℕ) (before es : List (Event T)) (f s : ℕ) (x : T) → AcceptedAfter files before es → Contains es (Offer f s x) → offer_at (before ++ es) f s ≡ Some x
  offer_there files before [] f s x a (k, lt, e) = absurd (omega (arith, lt))
  offer_there files before (e ∷ es) f s x a c =
      elim (first_or_rest e es (Offer f s x) c) [
        | inl same ↦
            let free : refusal files before (Offer f s x) ≡ None = ap (refusal files before) (sym same) ∙ a.0 in
            let new = offer_new (is_past (close_at before f) s) (offer_at before f s) (known_file (nat_lt f files) Stranger (offer_refusal before f s) free) in
            let self : (f == f) && (s == s) ≡ true = ap (λ b. b && (s == s)) (eq-eqb f f refl) ∙ ap (λ b. true && b) (eq-eqb s s refl) in
            ap (λ d. offer_at (before ++ d ∷ es) f s) same ∙ offer_at_append before (Offer f s x ∷ es) f s ∙ ap (λ o. or_else o (offer_at (Offer f s x ∷ es) f s)) new
            ∙ ap (λ b. cond b (Some x) (offer_at es f s)) self
        | inr rest ↦ ap (λ l. offer_at l f s) (sym (append_assoc before (e ∷ []) es)) ∙ offer_there files (before ++ e ∷ []) es f s x a.1 rest
      ]

  close_there : (files : ℕ) (before es : List (Event T)) (f n : ℕ) → AcceptedAfter files before es → Contains es (Close f n) → close_at (before ++ es) f ≡ Some n
  close_there files before [] f n a (k, lt, e) = absurd (omega (arith, lt))
  close_there files before (e ∷ es) f n a c =
      elim (first_or_rest e es (Close f n) c) [
        | inl same ↦
            let free : refusal files before (Close f n) ≡ None = ap (refusal files before) (sym same) ∙ a.0 in
            let new = close_new (offers_from before f n) (close_at before f) (known_file (nat_lt f files) Stranger (close_refusal before f n) free) in
            ap (λ d. close_at (before ++ d ∷ es) f) same ∙ close_at_append before (Close f n ∷ es) f ∙ ap (λ o. or_else o (close_at (Close f n ∷ es) f)) new
            ∙ ap (λ b. cond b (Some n) (close_at es f)) (eq-eqb f f refl)
        | inr rest ↦ ap (λ l. close_at l f) (sym (append_assoc before (e ∷ []) es)) ∙ close_there files (before ++ e ∷ []) es f n a.1 rest
      ]

  -- each serial of what is ready was offered
  ready_step_found : (f s q : ℕ) (found : Option T) (rest : List (ℕ × ℕ × T)) (es : List (Event T)) → found ≡ offer_at es f s → q < length (ready_step found f s rest)
      → ((p : ℕ) → p < length rest → is_some (offer_at es f (suc s + p)) ≡ true) → is_some (offer_at es f (s + q)) ≡ true
  ready_step_found f s q None rest es e lt h = absurd (omega arith)
  ready_step_found f s zero (Some x) rest es e lt h = let z : s + zero ≡ s = omega arith in ap (λ n. is_some (offer_at es f n)) z ∙ ap is_some (sym e)
  ready_step_found f s (suc q) (Some x) rest es e lt h = let z : s + suc q ≡ suc s + q = omega arith in ap (λ n. is_some (offer_at es f n)) z ∙ h q (omega arith)

  ready_found : (es : List (Event T)) (f s most q : ℕ) → q < length (ready_from es f s most) → is_some (offer_at es f (s + q)) ≡ true
  ready_found es f s zero q lt = absurd (omega arith)
  ready_found es f s (suc most) q lt = ready_step_found f s q (offer_at es f s) (ready_from es f (suc s) most) es refl lt (ready_found es f (suc s) most)

  offered_some : (es : List (Event T)) (f s : ℕ) → is_some (offer_at es f s) ≡ true → 1 ≤ offered f s es
  offered_some es f s e = elim (cases_lt 0 (offered f s es)) [
    | inl lt ↦ omega (arith, lt)
    | inr le ↦ let none = never_offered f s es (omega (arith, le)) in let bad : ⊥ = cc in absurd bad
  ]

  ready_same_from : (es ds : List (Event T)) (f s most : ℕ) → ((q : ℕ) → offer_at es f q ≡ offer_at ds f q) → ready_from es f s most ≡ ready_from ds f s most
  ready_same_from es ds f s zero h = refl
  ready_same_from es ds f s (suc most) h = ap (λ o. ready_step o f s (ready_from es f (suc s) most)) (h s) ∙ ap (ready_step (offer_at ds f s) f s) (ready_same_from es ds f (suc s) most h)

  -- as many steps as there are events are enough
  ready_enough : (es ds : List (Event T)) (f : ℕ) → ((q : ℕ) → offer_at es f q ≡ offer_at ds f q) → length es ≤ length ds → ready_from ds f zero (length es) ≡ ready ds f
  ready_enough es ds f h le =
      let k = length (ready ds f) in
      let each : (s : ℕ) → s < k → is_some (offer_at ds f s) ≡ true = λ s lt. let z : zero + s ≡ s = omega arith in ap (λ n. is_some (offer_at ds f n)) (sym z) ∙ ready_found ds f zero (length ds) s lt in
      let few : k ≤ length es = enough k f es (λ s lt. offered_some es f s (ap is_some (h s) ∙ each s lt)) in
      prefix_equal (ready_from ds f zero (length es)) (ready ds f)
      (ready_on ds ds f zero (length es) (length ds) ((λ f s x e. e), (λ f n e. e), omega arith) le)
      (ready_reaches ds f zero k (length es) few (λ q a lt. each q (omega (arith, lt))))

  ready_same : (es ds : List (Event T)) (f : ℕ) → ((q : ℕ) → offer_at es f q ≡ offer_at ds f q) → ready es f ≡ ready ds f
  ready_same es ds f h = elim (cases_lt (length ds) (length es)) [
    | inl lt ↦ sym (ready_same_from ds es f zero (length ds) (λ q. sym (h q)) ∙ ready_enough ds es f (λ q. sym (h q)) (omega (arith, lt)))
    | inr le ↦ ready_same_from es ds f zero (length es) h ∙ ready_enough es ds f h le
  ]

  due_same : (es ds : List (Event T)) (f files : ℕ) → ((g q : ℕ) → offer_at es g q ≡ offer_at ds g q) → ((g : ℕ) → close_at es g ≡ close_at ds g) → due_from es f files ≡ due_from ds f files
  due_same es ds f zero h k = refl
  due_same es ds f (suc files) h k =
      let row = ready_same es ds f (h f) in
      let whole : is_complete es f ≡ is_complete ds f = ap (λ c. is_closed_at c (length (ready es f))) (k f) ∙ ap (λ l. is_closed_at (close_at ds f) (length l)) row in
      ap (λ l. l ++ cond (is_complete es f) (due_from es (suc f) files) []) row
      ∙ ap (λ b. ready ds f ++ cond b (due_from es (suc f) files) []) whole
      ∙ ap (λ l. ready ds f ++ cond (is_complete ds f) l []) (due_same es ds (suc f) files h k)

  -- the law
  pub due_of_the_set : (files : ℕ) (es ds : List (Event T)) → Accepted files es → Accepted files ds → ((e : Event T) → Contains es e ↔ Contains ds e) → due es files ≡ due ds files
  due_of_the_set files es ds a b same =
      due_same es ds zero files
      (λ f s. same_lookup (offer_at es f s) (offer_at ds f s)
      (λ x e. offer_there files [] ds f s x b ((same (Offer f s x)).0 (offer_among es f s x e)))
      (λ x e. offer_there files [] es f s x a ((same (Offer f s x)).1 (offer_among ds f s x e))))
      (λ f. same_lookup (close_at es f) (close_at ds f)
      (λ n e. close_there files [] ds f n b ((same (Close f n)).0 (close_among es f n e)))
      (λ n e. close_there files [] es f n a ((same (Close f n)).1 (close_among ds f n e))))
