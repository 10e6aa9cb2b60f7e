-- Two lists beside each other.
use Rattle.std.specs.Prelude.{List, [], ◌∷◌}

module _ {A B : Type 0} where
  -- R holds of the lists' items, place by place, and the lists are of one length
  abbrev pub Each : (A → B → Type 0) → List A → List B → Type 0
  Each R [] [] = Unit {0}
  Each R [] (y ∷ ys) = ⊥
  Each R (x ∷ xs) [] = ⊥
  Each R (x ∷ xs) (y ∷ ys) = R x y × Each R xs ys

  -- R holds, place by place, of the second list and the first items of the first
  abbrev pub EachStart : (A → B → Type 0) → List A → List B → Type 0
  EachStart R xs [] = Unit {0}
  EachStart R [] (y ∷ ys) = ⊥
  EachStart R (x ∷ xs) (y ∷ ys) = R x y × EachStart R xs ys
