-- Lists that are read item by item out of a JSON array.
use Rattle.std.proofs.Common.{◌≡◌, ℕ, zero, suc, ◌+◌, ◌<◌, List, [], ◌∷◌, ◌++◌, map, length, take, get_or, Option, Some, None, option_map, option_and_then, refl, ap, sym, ◌∙◌, arith}
use Rattle.std.proofs.lemmas.List.{map-append, take_more}
use Rattle.serde_json.specs.Data.{Data}
use Rattle.serde_json.specs.View.{items_of}
use Rattle.fq_language.specs.Parts.{items_as}

module _ {Y : Type 0} where
  first_of : (o : Option Y) → option_and_then (λ y. option_map (λ ys. y ∷ ys) (Some [])) o ≡ option_map (λ y. y ∷ []) o
  first_of None = refl
  first_of (Some y) = refl

  last_of : (first : Option Y) (ys : Option (List Y)) (last : Option Y) →
      option_and_then (λ x. option_map (λ xs. x ∷ xs) (option_and_then (λ xs. option_map (λ y. xs ++ y ∷ []) last) ys)) first
      ≡ option_and_then (λ xs. option_map (λ y. xs ++ y ∷ []) last) (option_and_then (λ x. option_map (λ xs. x ∷ xs) ys) first)
  last_of None ys last = refl
  last_of (Some x) None last = refl
  last_of (Some x) (Some xs) None = refl
  last_of (Some x) (Some xs) (Some y) = refl

  nothing_after : (o : Option Y) → option_and_then (λ y. option_map (λ ys. y ∷ ys) None) o ≡ None
  nothing_after None = refl
  nothing_after (Some y) = refl

module _ {Y : Type 0} (f : Data → Option Y) where
  items_as-append : (ds : List Data) (d : Data) → items_as f (items_of (ds ++ d ∷ [])) ≡ option_and_then (λ ys. option_map (λ y. ys ++ y ∷ []) (f d)) (items_as f (items_of ds))
  items_as-append [] d = first_of (f d)
  items_as-append (e ∷ ds) d =
      ap (λ o. option_and_then (λ x. option_map (λ xs. x ∷ xs) o) (f e)) (items_as-append ds d) ∙ last_of (f e) (items_as f (items_of ds)) (f d)

module _ {V X Y : Type 0} (view : V → Data) (f : Data → Option Y) (part : X → Y) where
  -- one more item, and the part that it spells
  pub items_as-step : (vs : List V) (i : ℕ) (v : V) (xs : List X) (x : X) → i < length vs → v ≡ get_or vs i v →
      items_as f (items_of (map view (take i vs))) ≡ Some (map part xs) → Some (part x) ≡ f (view v) →
      items_as f (items_of (map view (take (i + 1) vs))) ≡ Some (map part (xs ++ x ∷ []))
  items_as-step vs i v xs x below e so_far it =
      ap (λ us. items_as f (items_of (map view us))) (take_more vs i v below)
      ∙ ap (λ ds. items_as f (items_of ds)) (map-append view (take i vs) (get_or vs i v ∷ []))
      ∙ items_as-append f (map view (take i vs)) (view (get_or vs i v))
      ∙ ap (option_and_then (λ ys. option_map (λ y. ys ++ y ∷ []) (f (view (get_or vs i v))))) so_far
      ∙ ap (option_map (λ y. map part xs ++ y ∷ [])) (ap (λ u. f (view u)) (sym e) ∙ sym it)
      ∙ ap Some (sym (map-append part xs (x ∷ [])))

module _ {V Y : Type 0} (view : V → Data) (f : Data → Option Y) where
  -- an item that spells no part
  pub items_as-none : (vs : List V) (i : ℕ) (v : V) → i < length vs → v ≡ get_or vs i v → None ≡ f (view v) → None ≡ items_as f (items_of (map view vs))
  items_as-none [] i v below e none = absurd (omega (arith, below))
  items_as-none (w ∷ vs) zero v below e none =
      ap (option_and_then (λ y. option_map (λ ys. y ∷ ys) (items_as f (items_of (map view vs))))) (none ∙ ap (λ u. f (view u)) e)
  items_as-none (w ∷ vs) (suc i) v below e none =
      sym (nothing_after (f (view w))) ∙ ap (λ o. option_and_then (λ y. option_map (λ ys. y ∷ ys) o) (f (view w))) (items_as-none vs i v (omega (arith, below)) e none)
