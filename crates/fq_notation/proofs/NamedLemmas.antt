-- The notations that names have.
use Rattle.std.proofs.Common.{◌≡◌, ◌∙◌, ◌+◌, ℕ, List, [], ◌∷◌, ◌++◌, Some, Bool, true, false, ap, arith, refl, sym, map, take, cond, zero, suc}
use Rattle.std.specs.Prelude.{find, option_map, slice_get, unwrap_or}
use Rattle.fq_column.specs.Frame.{Field, Fields, Name, names_of, kinds_of, same_name}
use Rattle.fq_column.specs.declared.cells.Kind.{Kind}
use Rattle.fq_notation.specs.Notation.{Named, notation_given, notation_named}
use Rattle.fq_notation.specs.declared.notations.Notation.TheVariants.{Plain}

-- the notation of a name is that of the first entry under it
pub notation_named-found : {X : Type 0} (view : X → Named) (name : Name) (xs : List X) →
    notation_named (map view xs) name ≡ unwrap_or (option_map (λ x. (view x).1) (find (λ x. same_name (view x).0 name) xs)) Plain
notation_named-found view name [] = refl
notation_named-found view name (x ∷ xs) = by-name (notation_named-found view name xs) (same_name (view x).0 name)
  where
    by-name : notation_named (map view xs) name ≡ unwrap_or (option_map (λ x. (view x).1) (find (λ x. same_name (view x).0 name) xs)) Plain → (here : Bool) →
        cond here (view x).1 (notation_named (map view xs) name)
        ≡ unwrap_or (option_map (λ x. (view x).1) (cond here (Some x) (find (λ x. same_name (view x).0 name) xs))) Plain
    by-name later true = refl
    by-name later false = later

-- so is the one that it gives
pub notation_given-found : {X : Type 0} (view : X → Named) (name : Name) (xs : List X) →
    notation_given (map view xs) name ≡ option_map (λ x. (view x).1) (find (λ x. same_name (view x).0 name) xs)
notation_given-found view name [] = refl
notation_given-found view name (x ∷ xs) = by-name (notation_given-found view name xs) (same_name (view x).0 name)
  where
    by-name : notation_given (map view xs) name ≡ option_map (λ x. (view x).1) (find (λ x. same_name (view x).0 name) xs) → (here : Bool) →
        option_map (λ n. n.1) (cond here (Some (view x)) (find (λ n. same_name n.0 name) (map view xs)))
        ≡ option_map (λ x. (view x).1) (cond here (Some x) (find (λ x. same_name (view x).0 name) xs))
    by-name later true = refl
    by-name later false = later

-- one column more, of this name and kind
pub columns-more : {X : Type 0} (of : Field → X) (fields : Fields) (i : ℕ) (name : Name) (kind : Kind) →
    slice_get (names_of fields) i ≡ Some name → slice_get (kinds_of fields) i ≡ Some kind →
    map of (take i fields) ++ of (name, kind) ∷ [] ≡ map of (take (i + 1) fields)
columns-more of fields i name kind named kinded =
    go fields i named kinded ∙ ap (λ n. map of (take n fields)) (let up : suc i ≡ i + 1 = omega arith in up)
  where
    go : (fields : Fields) (i : ℕ) → slice_get (names_of fields) i ≡ Some name → slice_get (kinds_of fields) i ≡ Some kind →
        map of (take i fields) ++ of (name, kind) ∷ [] ≡ map of (take (suc i) fields)
    go [] i named kinded = absurd (cc)
    go (f ∷ fields) zero named kinded = let n : f.0 ≡ name = cc in let k : f.1 ≡ kind = cc in λ j. of (sym n j, sym k j) ∷ []
    go (f ∷ fields) (suc i) named kinded = λ j. of f ∷ go fields i named kinded j
