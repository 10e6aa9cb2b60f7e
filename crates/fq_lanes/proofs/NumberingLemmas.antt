-- The numbers of items.
use Rattle.std.proofs.Common.{◌≡◌, ℕ, zero, suc, ◌+◌, ◌<◌, List, [], ◌∷◌, ◌++◌, length, set, refl, sym, subst, ap, arith, Some}
use Rattle.std.specs.List.{slice_get}
use mathlib.Core.List.{IsPrefix}
use Rattle.fq_lanes.specs.Beside.{Each, EachStart}
use Rattle.fq_lanes.specs.Numbering.{numbered_file, numbered, numbers, item_at, AllNumbered}
use Rattle.fq_lanes.specs.Engine.{IsWorked}
use Rattle.fq_lanes.proofs.BesideLemmas.{head_of, tail_of, get_set_same}

module _ {A : Type 0} where
  pub all_numbered_append : (P : ℕ → ℕ → A → Type 0) (es fs : List (ℕ × ℕ × A)) → AllNumbered P es → AllNumbered P fs → AllNumbered P (es ++ fs)
  all_numbered_append P [] fs h k = k
  all_numbered_append P (e ∷ es) fs h k = (h.0, all_numbered_append P es fs h.1 k)

  pub all_numbered_prefix : (P : ℕ → ℕ → A → Type 0) (es fs : List (ℕ × ℕ × A)) → IsPrefix es fs → AllNumbered P fs → AllNumbered P es
  all_numbered_prefix P [] fs p h = tt
  all_numbered_prefix P (e ∷ es) [] (t, p) h = let bad : ⊥ = cc in absurd bad
  all_numbered_prefix P (e ∷ es) (f ∷ fs) (t, p) h =
      let first : e ≡ f = cc in let rest : es ++ t ≡ fs = cc in
      (subst (λ z. P z.0 z.1 z.2) (sym first) h.0, all_numbered_prefix P es fs (t, rest) h.1)

  pub all_numbered_map : (P Q : ℕ → ℕ → A → Type 0) (es : List (ℕ × ℕ × A)) → ((f s : ℕ) (x : A) → P f s x → Q f s x) → AllNumbered P es → AllNumbered Q es
  all_numbered_map P Q [] k h = tt
  all_numbered_map P Q (e ∷ es) k h = (k e.0 e.1 e.2 h.0, all_numbered_map P Q es k h.1)

  file_all : (P : ℕ → ℕ → A → Type 0) (f s : ℕ) (xs : List A) → ((i : ℕ) (x : A) → slice_get xs i ≡ Some x → P f (s + i) x) → AllNumbered P (numbered_file f s xs)
  file_all P f s [] h = tt
  file_all P f s (x ∷ xs) h = (
    subst (λ n. P f n x) (let e : s + zero ≡ s = omega arith in e) (h zero x refl),
    file_all P f (suc s) xs (λ i y at. subst (λ n. P f n y) (let e : s + suc i ≡ suc s + i = omega arith in e) (h (suc i) y at)),
  )

  -- what holds of each item holds of the numbered items
  pub items_all : (P : ℕ → ℕ → A → Type 0) (f : ℕ) (items : List (List A)) → ((i s : ℕ) (x : A) → item_at items i s ≡ Some x → P (f + i) s x) → AllNumbered P (numbered f items)
  items_all P f [] h = tt
  items_all P f (xs ∷ items) h =
      all_numbered_append P (numbered_file f zero xs) (numbered (suc f) items)
      (file_all P f zero xs (λ i x at. let e : f + zero ≡ f = omega arith in let e0 : i ≡ zero + i = omega arith in subst (λ n. P f n x) e0 (subst (λ n. P n i x) e (h zero i x at))))
      (items_all P (suc f) items (λ i s x at. let e : f + suc i ≡ suc f + i = omega arith in subst (λ n. P n s x) e (h (suc i) s x at)))

  -- an item's file
  pub item_file : (items : List (List A)) (f s : ℕ) (x : A) → item_at items f s ≡ Some x → (xs : List A) × (slice_get items f ≡ Some xs) × (slice_get xs s ≡ Some x)
  item_file [] f s x e = let bad : ⊥ = cc in absurd bad
  item_file (xs ∷ items) zero s x e = (xs, refl, e)
  item_file (xs ∷ items) (suc f) s x e = item_file items f s x e

  pub file_item : (items : List (List A)) (f s : ℕ) (xs : List A) → slice_get items f ≡ Some xs → item_at items f s ≡ slice_get xs s
  file_item [] f s xs e = let bad : ⊥ = cc in absurd bad
  file_item (ys ∷ items) zero s xs e = let same : ys ≡ xs = cc in ap (λ zs. slice_get zs s) same
  file_item (ys ∷ items) (suc f) s xs e = file_item items f s xs e

  pub item_set_other : (items : List (List A)) (f g s : ℕ) (ys : List A) → (g ≡ f → ⊥) → item_at (set items f ys) g s ≡ item_at items g s
  item_set_other [] f g s ys ne = refl
  item_set_other (xs ∷ items) zero zero s ys ne = absurd (ne refl)
  item_set_other (xs ∷ items) zero (suc g) s ys ne = refl
  item_set_other (xs ∷ items) (suc f) zero s ys ne = refl
  item_set_other (xs ∷ items) (suc f) (suc g) s ys ne = item_set_other items f g s ys (λ e. ne (ap suc e))

  pub item_set_same : (items : List (List A)) (f s : ℕ) (ys : List A) → f < length items → item_at (set items f ys) f s ≡ slice_get ys s
  item_set_same items f s ys lt = file_item (set items f ys) f s ys (get_set_same items f ys lt)

module _ {X O : Type 0} where
  -- two lists with the same numbers, of which facts hold that fit together
  pub each_worked : (works : ℕ → X → O → Type 0) (P : ℕ → ℕ → X → Type 0) (Q : ℕ → ℕ → O → Type 0)
      → ((f s : ℕ) (x : X) (o : O) → P f s x → Q f s o → works f x o)
      → (es : List (ℕ × ℕ × X)) (log : List (ℕ × ℕ × O)) → numbers log ≡ numbers es → AllNumbered P es → AllNumbered Q log → Each (IsWorked works) es log
  each_worked works P Q fits [] [] e h k = tt
  each_worked works P Q fits [] (r ∷ log) e h k = let bad : ⊥ = cc in absurd bad
  each_worked works P Q fits (x ∷ es) [] e h k = let bad : ⊥ = cc in absurd bad
  each_worked works P Q fits (x ∷ es) (r ∷ log) e h k =
      let file : r.0 ≡ x.0 = ap (λ l. (head_of {A = ℕ × ℕ} (0, 0) l).0) e in
      let serial : r.1 ≡ x.1 = ap (λ l. (head_of {A = ℕ × ℕ} (0, 0) l).1) e in
      let rest : numbers log ≡ numbers es = ap tail_of e in (
        (file, serial, fits x.0 x.1 x.2 r.2 h.0 (subst (λ f. Q f x.1 r.2) file (subst (λ s. Q r.0 s r.2) serial k.0))),
        each_worked works P Q fits es log rest h.1 k.1,
      )

  pub start_worked : (works : ℕ → X → O → Type 0) (P : ℕ → ℕ → X → Type 0) (Q : ℕ → ℕ → O → Type 0)
      → ((f s : ℕ) (x : X) (o : O) → P f s x → Q f s o → works f x o)
      → (es : List (ℕ × ℕ × X)) (log : List (ℕ × ℕ × O)) → IsPrefix (numbers log) (numbers es) → AllNumbered P es → AllNumbered Q log → EachStart (IsWorked works) es log
  start_worked works P Q fits es [] e h k = tt
  start_worked works P Q fits [] (r ∷ log) (t, e) h k = let bad : ⊥ = cc in absurd bad
  start_worked works P Q fits (x ∷ es) (r ∷ log) (t, e) h k =
      let file : r.0 ≡ x.0 = ap (λ l. (head_of {A = ℕ × ℕ} (0, 0) l).0) e in
      let serial : r.1 ≡ x.1 = ap (λ l. (head_of {A = ℕ × ℕ} (0, 0) l).1) e in (
        (file, serial, fits x.0 x.1 x.2 r.2 h.0 (subst (λ f. Q f x.1 r.2) file (subst (λ s. Q r.0 s r.2) serial k.0))),
        start_worked works P Q fits es log (t, ap tail_of e) h.1 k.1,
      )
