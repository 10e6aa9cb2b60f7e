-- Lists.
use Rattle.std.proofs.Common.{◌≡◌, ℕ, zero, suc, ◌<◌, List, [], ◌∷◌, ◌++◌, All, length, set, get_or, refl, sym, subst, ap, ◌∙◌, arith, append_assoc, Some}
use Rattle.std.proofs.lemmas.List.{append-nil}
use Rattle.std.proofs.lemmas.Option.{slice_get-get_or}
use Rattle.std.specs.List.{slice_get}
use mathlib.Core.List.{IsPrefix}
use Rattle.fq_lanes.specs.Beside.{Each}

module _ {A : Type 0} where
  abbrev pub head_of : A → List A → A
  head_of d [] = d
  head_of d (x ∷ xs) = x

  abbrev pub tail_of : List A → List A
  tail_of [] = []
  tail_of (x ∷ xs) = xs

  pub nothing_in : (xs : List A) → length xs ≡ 0 → xs ≡ []
  nothing_in [] e = refl
  nothing_in (x ∷ xs) e = absurd (omega arith)

  pub prefix_same : (xs : List A) → IsPrefix xs xs
  prefix_same xs = ([], append-nil xs)

  pub prefix_then : (xs ys zs : List A) → IsPrefix xs ys → IsPrefix ys zs → IsPrefix xs zs
  prefix_then xs ys zs (p, a) (q, b) = (p ++ q, sym (append_assoc xs p q) ∙ ap (λ l. l ++ q) a ∙ b)

  pub get_in : (xs : List A) (i : ℕ) → i < length xs → (x : A) × (slice_get xs i ≡ Some x)
  get_in [] i lt = absurd (omega arith)
  get_in (x ∷ xs) zero lt = (x, refl)
  get_in (x ∷ xs) (suc i) lt = get_in xs i (omega arith)

  pub get_within : (xs : List A) (i : ℕ) (x : A) → slice_get xs i ≡ Some x → i < length xs
  get_within [] i x e = let bad : ⊥ = cc in absurd bad
  get_within (y ∷ xs) zero x e = omega arith
  get_within (y ∷ xs) (suc i) x e = let rest = get_within xs i x e in omega (arith, rest)

  pub get_or_place : (xs : List A) (i : ℕ) (x : A) → i < length xs → x ≡ get_or xs i x → slice_get xs i ≡ Some x
  get_or_place [] i x lt e = absurd (omega arith)
  get_or_place (y ∷ xs) zero x lt e = ap Some (sym e)
  get_or_place (y ∷ xs) (suc i) x lt e = get_or_place xs i x (omega arith) e

  pub get_set_same : (xs : List A) (i : ℕ) (x : A) → i < length xs → slice_get (set xs i x) i ≡ Some x
  get_set_same [] i x lt = absurd (omega arith)
  get_set_same (y ∷ xs) zero x lt = refl
  get_set_same (y ∷ xs) (suc i) x lt = get_set_same xs i x (omega arith)

  pub get_set_other : (xs : List A) (i k : ℕ) (x : A) → (k ≡ i → ⊥) → slice_get (set xs i x) k ≡ slice_get xs k
  get_set_other [] i k x ne = refl
  get_set_other (y ∷ xs) zero zero x ne = absurd (ne refl)
  get_set_other (y ∷ xs) zero (suc k) x ne = refl
  get_set_other (y ∷ xs) (suc i) zero x ne = refl
  get_set_other (y ∷ xs) (suc i) (suc k) x ne = get_set_other xs i k x (λ e. ne (ap suc e))

  pub set_same : (xs : List A) (i : ℕ) (x : A) → slice_get xs i ≡ Some x → set xs i x ≡ xs
  set_same [] i x e = refl
  set_same (y ∷ xs) zero x e = let same : x ≡ y = cc in ap (λ z. z ∷ xs) same
  set_same (y ∷ xs) (suc i) x e = ap (λ l. y ∷ l) (set_same xs i x e)

  pub get_append : (xs ys : List A) (i : ℕ) (x : A) → slice_get xs i ≡ Some x → slice_get (xs ++ ys) i ≡ Some x
  get_append [] ys i x e = let bad : ⊥ = cc in absurd bad
  get_append (y ∷ xs) ys zero x e = e
  get_append (y ∷ xs) ys (suc i) x e = get_append xs ys i x e

  pub get_prefix : (xs ys : List A) (i : ℕ) (x : A) → IsPrefix xs ys → slice_get xs i ≡ Some x → slice_get ys i ≡ Some x
  get_prefix xs ys i x (more, p) e = subst (λ zs. slice_get zs i ≡ Some x) p (get_append xs more i x e)

  pub get_last : (xs : List A) (x : A) → slice_get (xs ++ x ∷ []) (length xs) ≡ Some x
  get_last [] x = refl
  get_last (y ∷ xs) x = get_last xs x

  pub all_by_place : (P : A → Type 0) (xs : List A) → ((i : ℕ) (x : A) → slice_get xs i ≡ Some x → P x) → All P xs
  all_by_place P xs h i d below = h i (get_or xs i d) (slice_get-get_or xs i d below)

module _ {A B : Type 0} where
  pub each_by_place : (R : A → B → Type 0) (xs : List A) (ys : List B) → length ys ≡ length xs
      → ((i : ℕ) (x : A) (y : B) → i < length xs → get_or xs i x ≡ x → get_or ys i y ≡ y → R x y) → Each R xs ys
  each_by_place R [] [] e h = tt
  each_by_place R [] (y ∷ ys) e h = absurd (omega arith)
  each_by_place R (x ∷ xs) [] e h = absurd (omega arith)
  each_by_place R (x ∷ xs) (y ∷ ys) e h =
      (h zero x y (omega arith) refl refl, each_by_place R xs ys (omega arith) (λ i a b below p q. h (suc i) a b (omega arith) p q))

  pub each_length : (R : A → B → Type 0) (xs : List A) (ys : List B) → Each R xs ys → length xs ≡ length ys
  each_length R [] [] h = refl
  each_length R [] (y ∷ ys) h = absurd h
  each_length R (x ∷ xs) [] h = absurd h
  each_length R (x ∷ xs) (y ∷ ys) h = let rest = each_length R xs ys h.1 in omega (arith, rest)
