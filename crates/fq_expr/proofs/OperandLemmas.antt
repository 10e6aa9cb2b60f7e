-- The cells of an operand in the first rows, and a loop over two of them.
use Rattle.std.proofs.Common.{◌≡◌, ℕ, zero, suc, ◌+◌, ◌<◌, ◌≤◌, List, [], ◌∷◌, ◌++◌, length, map, take, drop, replicate, refl, ap, sym, ◌∙◌, arith, append_assoc, append-nil, Option, Some, None}
use Rattle.std.specs.Prelude.{slice_get}
use Rattle.std.specs.Option.{option_copied}
use Rattle.std.proofs.lemmas.List.{length-map, length-take-le, length-replicate}
use Rattle.fq_column.specs.declared.cells.Cell.{Cell}
use Rattle.fq_column.specs.Column.{nullable}
use Rattle.fq_column.specs.Lists.{before_missing, zip_with}
use Rattle.fq_expr.specs.declared.operands.Operand.{Operand}
use Rattle.fq_expr.specs.declared.operands.Operand.TheVariants.{Borrowed, Owned, Scalar}
use Rattle.fq_expr.specs.Operand.{HasRows, IsInRow, cells_in}

pub slice_get-map : {X Y : Type 0} (f : X → Y) (xs : List X) (i : ℕ) (x : X) → slice_get xs i ≡ Some x → slice_get (map f xs) i ≡ Some (f x)
slice_get-map f [] i x e = absurd (cc)
slice_get-map f (y ∷ xs) zero x e = ap Some (ap f (let g : y ≡ x = cc in g))
slice_get-map f (y ∷ xs) (suc i) x e = slice_get-map f xs i x e

pub slice_get-take : {X : Type 0} (n : ℕ) (xs : List X) (i : ℕ) (x : X) → i < n → slice_get xs i ≡ Some x → slice_get (take n xs) i ≡ Some x
slice_get-take zero xs i x h e = absurd (omega (arith, h))
slice_get-take (suc n) [] i x h e = e
slice_get-take (suc n) (y ∷ xs) zero x h e = e
slice_get-take (suc n) (y ∷ xs) (suc i) x h e = slice_get-take n xs i x (omega (arith, h)) e

pub slice_get-replicate : {X : Type 0} (n i : ℕ) (x : X) → i < n → slice_get (replicate n x) i ≡ Some x
slice_get-replicate zero i x h = absurd (omega (arith, h))
slice_get-replicate (suc n) zero x h = refl
slice_get-replicate (suc n) (suc i) x h = slice_get-replicate n i x (omega (arith, h))

module _ {T : Type 0} (make : T → Cell) where
  -- the cell in a row is that of its value
  pub cells_in-at : (n : ℕ) (o : Operand T) (i : ℕ) (v : Option T) → i < n → IsInRow i o v → slice_get (cells_in make n o) i ≡ Some (nullable make v)
  cells_in-at n (Borrowed array) i v h e = slice_get-map (nullable make) (take n array.now) i v (slice_get-take n array.now i v h e)
  cells_in-at n (Owned array) i v h e = slice_get-map (nullable make) (take n array) i v (slice_get-take n array i v h e)
  cells_in-at n (Scalar x) i v h e = slice_get-map (nullable make) (replicate n (option_copied x)) i v (slice_get-replicate n i (option_copied x) h ∙ ap Some e)

  pub length-cells_in : (n : ℕ) (o : Operand T) → HasRows n o → length (cells_in make n o) ≡ n
  length-cells_in n (Borrowed array) h = length-map (take n array.now) (nullable make) ∙ length-take-le n array.now h
  length-cells_in n (Owned array) h = length-map (take n array) (nullable make) ∙ length-take-le n array h
  length-cells_in n (Scalar x) h = length-map (replicate n (option_copied x)) (nullable make) ∙ length-replicate n (option_copied x)

-- one more place of two lists
pub zip_with-drop : {X Y Z : Type 0} (f : X → Y → Z) (xs : List X) (ys : List Y) (i : ℕ) (x : X) (y : Y) → slice_get xs i ≡ Some x → slice_get ys i ≡ Some y →
    zip_with f (drop i xs) (drop i ys) ≡ f x y ∷ zip_with f (drop (suc i) xs) (drop (suc i) ys)
zip_with-drop f [] ys i x y e g = absurd (cc)
zip_with-drop f (z ∷ xs) [] i x y e g = absurd (cc)
zip_with-drop f (z ∷ xs) (w ∷ ys) zero x y e g = let a : z ≡ x = cc in let b : w ≡ y = cc in λ i. f (a i) (b i) ∷ zip_with f xs ys
zip_with-drop f (z ∷ xs) (w ∷ ys) (suc i) x y e g = zip_with-drop f xs ys i x y e g

-- what a loop over two lists has made so far
module _ (f : Cell → Cell → Option Cell) (xs ys all : List Cell) (i : ℕ) (x y : Cell) where
  pub loop-value : (made : List Cell) (z : Cell) → slice_get xs i ≡ Some x → slice_get ys i ≡ Some y → Some z ≡ f x y →
      all ≡ made ++ before_missing (zip_with f (drop i xs) (drop i ys)) → all ≡ (made ++ z ∷ []) ++ before_missing (zip_with f (drop (i + 1) xs) (drop (i + 1) ys))
  loop-value made z e g h inv = inv
      ∙ ap (λ l. made ++ before_missing l) (zip_with-drop f xs ys i x y e g ∙ ap (λ o. o ∷ zip_with f (drop (suc i) xs) (drop (suc i) ys)) (sym h))
      ∙ ap (λ n. made ++ (z ∷ before_missing (zip_with f (drop n xs) (drop n ys)))) (let e : suc i ≡ i + 1 = omega arith in e)
      ∙ sym (append_assoc made (z ∷ []) (before_missing (zip_with f (drop (i + 1) xs) (drop (i + 1) ys))))

  pub loop-fault : (made : List Cell) → slice_get xs i ≡ Some x → slice_get ys i ≡ Some y → (let none : Option Cell = None in none ≡ f x y) →
      all ≡ made ++ before_missing (zip_with f (drop i xs) (drop i ys)) → made ≡ all
  loop-fault made e g h inv = sym (inv
      ∙ ap (λ l. made ++ before_missing l) (zip_with-drop f xs ys i x y e g ∙ ap (λ o. o ∷ zip_with f (drop (suc i) xs) (drop (suc i) ys)) (sym h))
      ∙ append-nil made)

-- a loop that went over all places
pub loop-end : (f : Cell → Cell → Option Cell) (xs ys all made : List Cell) (i : ℕ) → length xs ≤ i → all ≡ made ++ before_missing (zip_with f (drop i xs) (drop i ys)) → made ≡ all
loop-end f xs ys all made i h inv = sym (inv ∙ ap (λ l. made ++ before_missing (zip_with f l (drop i ys))) (nothing-left xs i h) ∙ append-nil made)
  where
    nothing-left : (xs : List Cell) (i : ℕ) → length xs ≤ i → drop i xs ≡ []
    nothing-left [] zero h = refl
    nothing-left [] (suc i) h = refl
    nothing-left (x ∷ xs) zero h = absurd (omega (arith, h))
    nothing-left (x ∷ xs) (suc i) h = nothing-left xs i (omega (arith, h))
