-- Lists whose items a test finds equal are fed to a hasher alike, one item after another with no length before them.
use Rattle.std.specs.Prelude.{◌≡◌, true, Bool, List, [], ◌∷◌, ◌++◌, refl}
use Rattle.std.proofs.Common.{sym, true≢false}
use Rattle.std.specs.Cmp.{first_so, second_so}
use Rattle.std.specs.Cmp.Lexicographic.{pointwise}
use Rattle.std.specs.Hash.{HashWrites}
use Rattle.std.specs.List.{flat_map}

module _ {T : Type 0} {E : T → T → Bool} {F : T → HashWrites} (alike : (x y : T) → E x y ≡ true → F x ≡ F y) where
  pub items_alike : (xs ys : List T) → pointwise E xs ys ≡ true → flat_map F xs ≡ flat_map F ys
  items_alike [] [] h = refl
  items_alike [] (y ∷ ys) h = absurd (true≢false (sym h))
  items_alike (x ∷ xs) [] h = absurd (true≢false (sym h))
  items_alike (x ∷ xs) (y ∷ ys) h = λ i. alike x y (first_so (E x y) (pointwise E xs ys) h) i ++ items_alike xs ys (second_so (E x y) (pointwise E xs ys) h) i
