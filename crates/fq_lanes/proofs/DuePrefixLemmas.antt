-- What is due stays due, in its place.
use Rattle.std.proofs.Common.{◌≡◌, ◌==◌, ◌≤◌, ℕ, zero, suc, ◌+◌, List, [], ◌∷◌, ◌++◌, length, refl, sym, subst, ap, ◌∙◌, arith, append_assoc, Option, Some, None, Bool, true, false, cond}
use Rattle.std.proofs.lemmas.Bool.{eq-eqb, eqb-true}
use Rattle.std.proofs.lemmas.List.{append-nil}
use mathlib.Core.List.{IsPrefix}
use Rattle.fq_lanes.specs.Due.{offer_at, close_at, ready_step, ready_from, ready, is_closed_at, is_complete, due_from, Extends, ClosesHold}
use Rattle.fq_lanes.specs.declared.events.Event.{Event}

module _ {A : Type 0} where
  pub prefix_cons : (x : A) (xs ys : List A) → IsPrefix xs ys → IsPrefix (x ∷ xs) (x ∷ ys)
  prefix_cons x xs ys (t, e) = (t, ap (λ l. x ∷ l) e)

  pub prefix_longer : (xs ys more : List A) → IsPrefix xs ys → IsPrefix xs (ys ++ more)
  prefix_longer xs ys more (t, e) = (t ++ more, sym (append_assoc xs t more) ∙ ap (λ l. l ++ more) e)

  pub prefix_behind : (front xs ys : List A) → IsPrefix xs ys → IsPrefix (front ++ xs) (front ++ ys)
  prefix_behind front xs ys (t, e) = (t, append_assoc front xs t ∙ ap (λ l. front ++ l) e)

module _ {A : Type 0} where
  pub prefix_equal : (xs ys : List A) → IsPrefix xs ys → length ys ≤ length xs → xs ≡ ys
  prefix_equal [] [] p le = refl
  prefix_equal [] (y ∷ ys) p le = absurd (omega arith)
  prefix_equal (x ∷ xs) [] (t, e) le = let bad : ⊥ = cc in absurd bad
  prefix_equal (x ∷ xs) (y ∷ ys) (t, e) le =
      let first : x ≡ y = cc in
      let rest : xs ++ t ≡ ys = cc in
      ap (λ z. z ∷ xs) first ∙ ap (λ zs. y ∷ zs) (prefix_equal xs ys (t, rest) (omega arith))

pub closed_with : (c : Option ℕ) (m : ℕ) → is_closed_at c m ≡ true → (n : ℕ) × (c ≡ Some n) × (m ≡ n)
closed_with None m e = let bad : ⊥ = cc in absurd bad
closed_with (Some n) m e = (n, refl, sym (eqb-true n m e))

module _ {T : Type 0} where
  on_step : (f s : ℕ) (found found' : Option T) (rest rest' : List (ℕ × ℕ × T))
      → ((x : T) → found ≡ Some x → found' ≡ Some x) → IsPrefix rest rest' → IsPrefix (ready_step found f s rest) (ready_step found' f s rest')
  on_step f s None found' rest rest' h p = (ready_step found' f s rest', refl)
  on_step f s (Some x) None rest rest' h p = let e = h x refl in let bad : ⊥ = cc in absurd bad
  on_step f s (Some x) (Some y) rest rest' h p =
      let same : x ≡ y = let e = h x refl in cc in
      subst (λ z. IsPrefix ((f, s, x) ∷ rest) ((f, s, z) ∷ rest')) same (prefix_cons (f, s, x) rest rest' p)

  pub ready_on : (old new : List (Event T)) (f s m m' : ℕ) → Extends old new → m ≤ m' → IsPrefix (ready_from old f s m) (ready_from new f s m')
  ready_on old new f s zero m' x le = (ready_from new f s m', refl)
  ready_on old new f s (suc m) zero x le = absurd (omega arith)
  ready_on old new f s (suc m) (suc m') x le = on_step f s (offer_at old f s) (offer_at new f s) _ _ (x.0 f s) (ready_on old new f (suc s) m m' x (omega arith))

  stops_here : (f s : ℕ) (found : Option T) (rest : List (ℕ × ℕ × T)) → found ≡ None → length (ready_step found f s rest) ≤ zero
  stops_here f s None rest e = omega arith
  stops_here f s (Some x) rest e = let bad : ⊥ = cc in absurd bad

  grows_step : (f s n : ℕ) (found : Option T) (rest : List (ℕ × ℕ × T)) → length rest ≤ n → length (ready_step found f s rest) ≤ suc n
  grows_step f s n None rest le = omega arith
  grows_step f s n (Some x) rest le = omega arith

  pub ready_stops : (es : List (Event T)) (f s n m : ℕ) → offer_at es f (s + n) ≡ None → length (ready_from es f s m) ≤ n
  ready_stops es f s n zero e = omega arith
  ready_stops es f s zero (suc m) e =
      let at : s + zero ≡ s = omega arith in
      stops_here f s (offer_at es f s) (ready_from es f (suc s) m) (subst (λ k. offer_at es f k ≡ None) at e)
  ready_stops es f s (suc n) (suc m) e =
      let at : s + suc n ≡ suc s + n = omega arith in
      grows_step f s n (offer_at es f s) (ready_from es f (suc s) m) (ready_stops es f (suc s) n m (subst (λ k. offer_at es f k ≡ None) at e))

  -- a complete file stays as it is
  pub complete_stays : (old new : List (Event T)) (f : ℕ) → Extends old new → ClosesHold new → is_complete old f ≡ true → (ready old f ≡ ready new f) × (is_complete new f ≡ true)
  complete_stays old new f x holds e =
      let at = closed_with (close_at old f) (length (ready old f)) e in
      let closed : close_at new f ≡ Some at.0 = x.1 f at.0 at.1 in
      let z : zero + at.0 ≡ at.0 = omega arith in
      let short : length (ready new f) ≤ at.0 = ready_stops new f zero at.0 (length new) (subst (λ k. offer_at new f k ≡ None) (sym z) (holds f at.0 at.0 closed (omega arith))) in
      let same : ready old f ≡ ready new f = prefix_equal (ready old f) (ready new f) (ready_on old new f zero (length old) (length new) x x.2) (omega (arith, short, at.2)) in
      (same, ap (λ c. is_closed_at c (length (ready new f))) closed ∙ ap (λ k. at.0 == k) (sym (ap length same) ∙ at.2) ∙ eq-eqb at.0 at.0 refl)

  on_due : (b b' : Bool) (r r' rest rest' : List (ℕ × ℕ × T)) → IsPrefix r r' → (b ≡ true → (r ≡ r') × (b' ≡ true)) → IsPrefix rest rest' → IsPrefix (r ++ cond b rest []) (r' ++ cond b' rest' [])
  on_due false b' r r' rest rest' p h q = subst (λ l. IsPrefix l (r' ++ cond b' rest' [])) (sym (append-nil r)) (prefix_longer r r' (cond b' rest' []) p)
  on_due true false r r' rest rest' p h q = let e = (h refl).1 in let bad : ⊥ = cc in absurd bad
  on_due true true r r' rest rest' p h q = subst (λ l. IsPrefix (r ++ rest) (l ++ rest')) (h refl).0 (prefix_behind r rest rest' q)

  pub due_on : (old new : List (Event T)) (f files : ℕ) → Extends old new → ClosesHold new → IsPrefix (due_from old f files) (due_from new f files)
  due_on old new f zero x holds = ([], refl)
  due_on old new f (suc files) x holds =
      on_due (is_complete old f) (is_complete new f) (ready old f) (ready new f) (due_from old (suc f) files) (due_from new (suc f) files)
      (ready_on old new f zero (length old) (length new) x x.2) (complete_stays old new f x holds) (due_on old new (suc f) files x holds)
