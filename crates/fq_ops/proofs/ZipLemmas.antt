-- Two lists beside each other.
use Rattle.std.proofs.Common.{◌≡◌, List, [], ◌∷◌, ◌++◌, map, length, zip, refl, ap, arith}

pub zip-push : {X Y : Type 0} (xs : List X) (ys : List Y) (x : X) (y : Y) → length xs ≡ length ys → zip (xs ++ x ∷ []) (ys ++ y ∷ []) ≡ zip xs ys ++ (x, y) ∷ []
zip-push [] [] x y e = refl
zip-push [] (b ∷ ys) x y e = absurd (omega (arith, e))
zip-push (a ∷ xs) [] x y e = absurd (omega (arith, e))
zip-push (a ∷ xs) (b ∷ ys) x y e = ap (λ zs. (a, b) ∷ zs) (zip-push xs ys x y (omega (arith, e)))

pub map-zip_first : {X Y : Type 0} (xs : List X) (ys : List Y) → length xs ≡ length ys → map (λ p. p.0) (zip xs ys) ≡ xs
map-zip_first [] ys e = refl
map-zip_first (a ∷ xs) [] e = absurd (omega (arith, e))
map-zip_first (a ∷ xs) (b ∷ ys) e = ap (λ zs. a ∷ zs) (map-zip_first xs ys (omega (arith, e)))

pub map-zip_second : {X Y : Type 0} (xs : List X) (ys : List Y) → length xs ≡ length ys → map (λ p. p.1) (zip xs ys) ≡ ys
map-zip_second [] [] e = refl
map-zip_second [] (b ∷ ys) e = absurd (omega (arith, e))
map-zip_second (a ∷ xs) [] e = absurd (omega (arith, e))
map-zip_second (a ∷ xs) (b ∷ ys) e = ap (λ zs. b ∷ zs) (map-zip_second xs ys (omega (arith, e)))
