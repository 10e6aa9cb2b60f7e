-- Lists before their last item.
use Rattle.std.proofs.Common.{◌≡◌, ◌-◌, List, [], ◌∷◌, ◌++◌, map, take, length, refl, ap, sym, ◌∙◌, arith, length-append}
use Rattle.std.specs.Prelude.{slice_index_or}
use Rattle.std.proofs.Math.Seq.{take-append_seam}
use Rattle.std.proofs.lemmas.List.{length-map, take-map}
use Rattle.fq_csv.specs.Sources.{but_last, last_or}

pub but_last-map : {X Y : Type 0} (f : X → Y) (xs : List X) → but_last (map f xs) ≡ map f (but_last xs)
but_last-map f xs = ap (λ n. take (n - 1) (map f xs)) (length-map xs f) ∙ take-map f (length xs - 1) xs

module _ {X : Type 0} where
  index-last : (xs : List X) (x d : X) → slice_index_or (xs ++ x ∷ []) (length xs) d ≡ x
  index-last [] x d = refl
  index-last (y ∷ xs) x d = index-last xs x d

  length-last : (xs : List X) (x : X) → length (xs ++ x ∷ []) - 1 ≡ length xs
  length-last xs x = omega (arith, length-append xs (x ∷ []))

  pub but_last-snoc : (xs : List X) (x : X) → but_last (xs ++ x ∷ []) ≡ xs
  but_last-snoc xs x = ap (λ n. take n (xs ++ x ∷ [])) (length-last xs x) ∙ take-append_seam xs (x ∷ [])

  pub last_or-snoc : (d : X) (xs : List X) (x : X) → last_or d (xs ++ x ∷ []) ≡ x
  last_or-snoc d xs x = ap (λ n. slice_index_or (xs ++ x ∷ []) n d) (length-last xs x) ∙ index-last xs x d

  -- two lists with a last item
  pub same-ends : (xs ys : List X) (x y : X) → xs ++ x ∷ [] ≡ ys ++ y ∷ [] → (xs ≡ ys) × (x ≡ y)
  same-ends xs ys x y e = (sym (but_last-snoc xs x) ∙ ap but_last e ∙ but_last-snoc ys y, sym (last_or-snoc x xs x) ∙ ap (last_or x) e ∙ last_or-snoc x ys y)
