-- Lemmas on the words of specs/Lists.antt.
use Rattle.std.proofs.Common.{◌≡◌, ℕ, zero, suc, ◌+◌, ◌<◌, ◌≤◌, Bool, true, false, ◌||◌, List, [], ◌∷◌, ◌++◌, length, take, drop, refl, ap, sym, ◌∙◌, arith, cond, get_or, set, inl, inr, append-nil, Some, map}
use Rattle.std.specs.Prelude.{slice_get}
use Rattle.std.specs.List.{list_any, swap}
use Rattle.std.proofs.lemmas.List.{take-set-le, drop-set-lt, get_or_default, set-get_or, get_or-drop, drop-drop, length-take-le, length-set}
use Rattle.std.proofs.Math.Seq.{take-suc-set, take-suc}
use Rattle.std.proofs.Math.Nat.{eq-or-lt_of_le}
use Rattle.fq_column.specs.Lists.{zip_with, keep}

pub length-zip_with : {X Y Z : Type 0} (f : X → Y → Z) (xs : List X) (ys : List Y) → length ys ≡ length xs → length (zip_with f xs ys) ≡ length xs
length-zip_with f [] ys e = refl
length-zip_with f (x ∷ xs) [] e = omega (arith, e)
length-zip_with f (x ∷ xs) (y ∷ ys) e = ap suc (length-zip_with f xs ys (omega (arith, e)))

pub zip_with-append : {X Y Z : Type 0} (f : X → Y → Z) (xs us : List X) (ys vs : List Y) → length ys ≡ length xs → zip_with f (xs ++ us) (ys ++ vs) ≡ zip_with f xs ys ++ zip_with f us vs
zip_with-append f [] us [] vs e = refl
zip_with-append f [] us (y ∷ ys) vs e = absurd (omega (arith, e))
zip_with-append f (x ∷ xs) us [] vs e = absurd (omega (arith, e))
zip_with-append f (x ∷ xs) us (y ∷ ys) vs e = ap (λ zs. f x y ∷ zs) (zip_with-append f xs us ys vs (omega (arith, e)))

pub keep-zip_with : {X Y Z : Type 0} (f : X → Y → Z) (mask : List Bool) (xs : List X) (ys : List Y) → length ys ≡ length xs → keep mask (zip_with f xs ys) ≡ zip_with f (keep mask xs) (keep mask ys)
keep-zip_with f [] xs ys e = refl
keep-zip_with f (b ∷ mask) [] ys e = refl
keep-zip_with f (b ∷ mask) (x ∷ xs) [] e = absurd (omega (arith, e))
keep-zip_with f (true ∷ mask) (x ∷ xs) (y ∷ ys) e = ap (λ zs. f x y ∷ zs) (keep-zip_with f mask xs ys (omega (arith, e)))
keep-zip_with f (false ∷ mask) (x ∷ xs) (y ∷ ys) e = keep-zip_with f mask xs ys (omega (arith, e))

pub take-zip_with : {X Y Z : Type 0} (f : X → Y → Z) (n : ℕ) (xs : List X) (ys : List Y) → take n (zip_with f xs ys) ≡ zip_with f (take n xs) (take n ys)
take-zip_with f zero xs ys = refl
take-zip_with f (suc n) [] ys = refl
take-zip_with f (suc n) (x ∷ xs) [] = refl
take-zip_with f (suc n) (x ∷ xs) (y ∷ ys) = ap (λ zs. f x y ∷ zs) (take-zip_with f n xs ys)

-- one more mark and one more item
pub keep-snoc : {X : Type 0} (mask : List Bool) (xs : List X) (b : Bool) (x : X) → length mask ≡ length xs → keep (mask ++ b ∷ []) (xs ++ x ∷ []) ≡ keep mask xs ++ cond b (x ∷ []) []
keep-snoc [] [] true x e = refl
keep-snoc [] [] false x e = refl
keep-snoc [] (y ∷ ys) b x e = absurd (omega (arith, e))
keep-snoc (c ∷ mask) [] b x e = absurd (omega (arith, e))
keep-snoc (true ∷ mask) (y ∷ ys) b x e = ap (λ zs. y ∷ zs) (keep-snoc mask ys b x (omega (arith, e)))
keep-snoc (false ∷ mask) (y ∷ ys) b x e = keep-snoc mask ys b x (omega (arith, e))

-- an item moved to the end of those kept so far
pub take-swap : {X : Type 0} (xs : List X) (k i : ℕ) (d : X) → k ≤ i → i < length xs → take (suc k) (swap xs k i) ≡ take k xs ++ (get_or xs i d ∷ [])
take-swap [] k i d h g = absurd (omega (arith, g))
take-swap (x ∷ xs) k i d h g = let a = get_or (x ∷ xs) i x in let b = get_or (x ∷ xs) k x in
    elim (eq-or-lt_of_le h) [
      | inl e ↦
          ap (take (suc k)) (ap (λ j. set (set (x ∷ xs) k (get_or (x ∷ xs) j x)) j b) (sym e) ∙ ap (λ l. set l k b) (set-get_or (x ∷ xs) k x) ∙ set-get_or (x ∷ xs) k x) ∙ take-suc (x ∷ xs) k d (omega (arith, g, e)) ∙ ap (λ j. take k (x ∷ xs) ++ (get_or (x ∷ xs) j d ∷ [])) e
      | inr up ↦ take-set-le (suc k) (set (x ∷ xs) k a) i b up ∙ take-suc-set (x ∷ xs) k a (omega (arith, g, up)) ∙ ap (λ y. take k (x ∷ xs) ++ (y ∷ [])) (get_or_default (x ∷ xs) i x d g)
    ]

pub drop-swap : {X : Type 0} (xs : List X) (k i : ℕ) → k ≤ i → drop (suc i) (swap xs k i) ≡ drop (suc i) xs
drop-swap [] k i h = refl
drop-swap (x ∷ xs) k i h = let a = get_or (x ∷ xs) i x in
    drop-set-lt (suc i) (set (x ∷ xs) k a) i (get_or (x ∷ xs) k x) (omega arith) ∙ drop-set-lt (suc i) (x ∷ xs) k a (omega (arith, h))

get_or-same_tail : {X : Type 0} (ys xs : List X) (i : ℕ) (d : X) → drop i ys ≡ drop i xs → get_or ys i d ≡ get_or xs i d
get_or-same_tail ys xs i d e = sym (head_of ys) ∙ ap (λ l. get_or l 0 d) e ∙ head_of xs
  where
    head_of : (l : List _) → get_or (drop i l) 0 d ≡ get_or l i d
    head_of l = get_or-drop i l 0 d ∙ ap (λ j. get_or l j d) (let f : i + 0 ≡ i = omega arith in f)

pub drop-same_tail : {X : Type 0} (ys xs : List X) (i : ℕ) → drop i ys ≡ drop i xs → drop (i + 1) ys ≡ drop (i + 1) xs
drop-same_tail ys xs i e = sym (drop-drop 1 i ys) ∙ ap (drop 1) e ∙ drop-drop 1 i xs

-- one more place of the mask
keep-step : {X : Type 0} (mask : List Bool) (xs : List X) (i : ℕ) (d : X) → i < length xs → length mask ≡ length xs →
    keep (take (i + 1) mask) (take (i + 1) xs) ≡ keep (take i mask) (take i xs) ++ cond (get_or mask i false) (get_or xs i d ∷ []) []
keep-step mask xs i d h e =
    ap (λ j. keep (take j mask) (take j xs)) (let f : i + 1 ≡ suc i = omega arith in f)
    ∙ ap (λ ms. keep ms (take (suc i) xs)) (take-suc mask i false (omega (arith, h, e))) ∙ ap (keep (take i mask ++ (get_or mask i false ∷ []))) (take-suc xs i d h)
    ∙ keep-snoc (take i mask) (take i xs) (get_or mask i false) (get_or xs i d) (length-take-le i mask (omega (arith, h, e)) ∙ sym (length-take-le i xs (omega (arith, h))))

pub keep-marked : {X : Type 0} (mask : List Bool) (xs ys : List X) (k i : ℕ) → k ≤ i → i < length xs → length ys ≡ length xs → length mask ≡ length xs → get_or mask i false ≡ true →
    take k ys ≡ keep (take i mask) (take i xs) → drop i ys ≡ drop i xs → take (k + 1) (swap ys k i) ≡ keep (take (i + 1) mask) (take (i + 1) xs)
keep-marked mask [] ys k i h g e f m t r = absurd (omega (arith, g))
keep-marked mask (x ∷ xs) ys k i h g e f m t r =
    ap (λ j. take j (swap ys k i)) (let f : k + 1 ≡ suc k = omega arith in f)
    ∙ take-swap ys k i x h (omega (arith, g, e)) ∙ ap (λ l. l ++ (get_or ys i x ∷ [])) t ∙ ap (λ y. keep (take i mask) (take i (x ∷ xs)) ++ (y ∷ [])) (get_or-same_tail ys (x ∷ xs) i x r)
    ∙ sym (keep-step mask (x ∷ xs) i x g f ∙ ap (λ b. keep (take i mask) (take i (x ∷ xs)) ++ cond b (get_or (x ∷ xs) i x ∷ []) []) m)

pub keep-unmarked : {X : Type 0} (mask : List Bool) (xs : List X) (i : ℕ) → i < length xs → length mask ≡ length xs → get_or mask i false ≡ false →
    keep (take (i + 1) mask) (take (i + 1) xs) ≡ keep (take i mask) (take i xs)
keep-unmarked mask [] i g f m = absurd (omega (arith, g))
keep-unmarked mask (x ∷ xs) i g f m = keep-step mask (x ∷ xs) i x g f ∙ ap (λ b. keep (take i mask) (take i (x ∷ xs)) ++ cond b (get_or (x ∷ xs) i x ∷ []) []) m ∙ append-nil _

pub length-swap : {X : Type 0} (xs : List X) (k i : ℕ) → length (swap xs k i) ≡ length xs
length-swap [] k i = refl
length-swap (x ∷ xs) k i = length-set (set (x ∷ xs) k (get_or (x ∷ xs) i x)) i (get_or (x ∷ xs) k x) ∙ length-set (x ∷ xs) k (get_or (x ∷ xs) i x)

pub length-keep : {X Y : Type 0} (mask : List Bool) (xs : List X) (ys : List Y) → length xs ≡ length ys → length (keep mask xs) ≡ length (keep mask ys)
length-keep [] xs ys e = refl
length-keep (b ∷ mask) [] [] e = refl
length-keep (b ∷ mask) [] (y ∷ ys) e = absurd (omega (arith, e))
length-keep (b ∷ mask) (x ∷ xs) [] e = absurd (omega (arith, e))
length-keep (true ∷ mask) (x ∷ xs) (y ∷ ys) e = ap suc (length-keep mask xs ys (omega (arith, e)))
length-keep (false ∷ mask) (x ∷ xs) (y ∷ ys) e = length-keep mask xs ys (omega (arith, e))

pub slice_get-zip_with : {X Y Z : Type 0} (f : X → Y → Z) (xs : List X) (ys : List Y) (i : ℕ) (x : X) (y : Y) → slice_get xs i ≡ Some x → slice_get ys i ≡ Some y → slice_get (zip_with f xs ys) i ≡ Some (f x y)
slice_get-zip_with f [] ys i x y e g = absurd (cc)
slice_get-zip_with f (a ∷ xs) [] i x y e g = absurd (cc)
slice_get-zip_with f (a ∷ xs) (b ∷ ys) zero x y e g = cc
slice_get-zip_with f (a ∷ xs) (b ∷ ys) (suc i) x y e g = slice_get-zip_with f xs ys i x y e g

-- f of each item stays beside its mark
pub keep-map : {X Y : Type 0} (f : X → Y) (mask : List Bool) (xs : List X) → map f (keep mask xs) ≡ keep mask (map f xs)
keep-map f [] xs = refl
keep-map f (b ∷ mask) [] = refl
keep-map f (true ∷ mask) (x ∷ xs) = ap (λ ys. f x ∷ ys) (keep-map f mask xs)
keep-map f (false ∷ mask) (x ∷ xs) = keep-map f mask xs

pub take-map : {X Y : Type 0} (f : X → Y) (n : ℕ) (xs : List X) → map f (take n xs) ≡ take n (map f xs)
take-map f zero xs = refl
take-map f (suc n) [] = refl
take-map f (suc n) (x ∷ xs) = ap (λ ys. f x ∷ ys) (take-map f n xs)

-- a test of items, and one of what is made of them
pub any-mapped : {A B : Type 0} (f : A → B) (p : A → Bool) (q : B → Bool) → ((a : A) → p a ≡ q (f a)) → (xs : List A) → list_any p xs ≡ list_any q (map f xs)
any-mapped f p q same [] = refl
any-mapped f p q same (x ∷ xs) = λ i. same x i || any-mapped f p q same xs i
