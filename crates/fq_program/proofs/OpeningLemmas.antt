-- What readers tell that were opened one after another.
use Rattle.std.proofs.Common.{◌≡◌, ◌<◌, ◌+◌, ℕ, List, [], ◌∷◌, ◌++◌, map, take, length, get_or, Option, Some, refl, ap, ap₂}
use Rattle.std.specs.Prelude.{⊤}
use Rattle.std.proofs.lemmas.List.{get_or_default, map-append}
use Rattle.fq_column.proofs.BatchLemmas.{map-take-step}
use Rattle.std.specs.Borrow.{Bor}

-- of two lists, place by place: bytes that are known are told
abbrev pub Told : List (Option (List ℕ)) → List (Option (List ℕ)) → Type 0
Told [] [] = ⊤
Told (known ∷ rest) (told ∷ others) = ((bytes : List ℕ) → known ≡ Some bytes → told ≡ Some bytes) × Told rest others
Told _ _ = ⊥

pub told-push : (known told : List (Option (List ℕ))) (x y : Option (List ℕ)) → Told known told → ((bytes : List ℕ) → x ≡ Some bytes → y ≡ Some bytes) →
    Told (known ++ x ∷ []) (told ++ y ∷ [])
told-push [] [] x y all one = (one, tt)
told-push [] (t ∷ told) x y all one = absurd all
told-push (k ∷ known) [] x y all one = absurd all
told-push (k ∷ known) (t ∷ told) x y all one = (all.0, told-push known told x y all.1 one)

-- if all are known, all are told
pub told-all : (known told : List (Option (List ℕ))) (files : List (List ℕ)) → Told known told → known ≡ map Some files → told ≡ map Some files
told-all [] [] [] all are = refl
told-all [] [] (f ∷ files) all are = cc
told-all [] (t ∷ told) files all are = absurd all
told-all (k ∷ known) [] files all are = absurd all
told-all (k ∷ known) (t ∷ told) [] all are = cc
told-all (k ∷ known) (t ∷ told) (f ∷ files) all are =
    let first : t ≡ Some f = all.0 f cc in
    let rest : known ≡ map Some files = cc in
    ap₂ ◌∷◌ first (told-all known told files all.1 rest)

pub map-names : (f : List ℕ → Option (List ℕ)) (names : List (Bor (List ℕ))) → map (λ name. f name.now) names ≡ map f (map (λ name. name.now) names)
map-names f [] = refl
map-names f (name ∷ names) = ap (λ (rest : List (Option (List ℕ))). f name.now ∷ rest) (map-names f names)

-- one more file is opened
pub told-next : {R : Type 0} (f : Bor (List ℕ) → Option (List ℕ)) (remaining : R → Option (List ℕ)) (names : List (Bor (List ℕ))) (readers more : List R)
    (i : ℕ) (d : Bor (List ℕ)) (reader : R) → i < length names → more ≡ readers ++ reader ∷ [] → Told (map f (take i names)) (map remaining readers) →
    ((bytes : List ℕ) → f (get_or names i d) ≡ Some bytes → remaining reader ≡ Some bytes) → Told (map f (take (i + 1) names)) (map remaining more)
told-next f remaining names readers more i d reader lt pushed all one =
    let step : map f (take (i + 1) names) ≡ map f (take i names) ++ f (get_or names i d) ∷ [] = map-take-step f names i (get_or names i d) lt (get_or_default names i d _ lt) in
    rw (step, pushed, map-append remaining readers (reader ∷ [])) (told-push _ _ _ _ all one)
