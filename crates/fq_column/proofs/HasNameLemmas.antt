-- Whether a name is among names that are put together of others.
use Rattle.std.proofs.Common.{◌≡◌, Bool, true, false, cond, ◌&&◌, ◌||◌, List, [], ◌∷◌, ◌++◌, filter, refl, ap, sym, ◌∙◌}
use Rattle.std.specs.Prelude.{flat_map}
use Rattle.std.specs.List.{list_any}
use Rattle.std.specs.Cmp.Lexicographic.{bytes_decides}
use Rattle.std.proofs.lemmas.List.Folds.{list_any-append}
use Rattle.fq_column.specs.Frame.{Name, has_name, same_name}

pub has_name-append : (xs ys : List Name) (n : Name) → has_name (xs ++ ys) n ≡ (has_name xs n || has_name ys n)
has_name-append xs ys n = list_any-append (same_name n) xs ys

pub has_name-each : {X : Type 0} (names : X → List Name) (xs : List X) (n : Name) → has_name (flat_map names xs) n ≡ list_any (λ x. has_name (names x) n) xs
has_name-each names [] n = refl
has_name-each names (x ∷ xs) n = has_name-append (names x) (flat_map names xs) n ∙ ap (λ b. has_name (names x) n || b) (has_name-each names xs n)

-- a test of names tells a name's own answer of each that is the same
pub has_name-kept : (p : Name → Bool) (names : List Name) (n : Name) → has_name (filter p names) n ≡ (has_name names n && p n)
has_name-kept p [] n = refl
has_name-kept p (m ∷ names) n = go (same_name n m) refl (p m) refl (p n) refl (has_name-kept p names n)
  where
    go : (b : Bool) → same_name n m ≡ b → (c : Bool) → p m ≡ c → (d : Bool) → p n ≡ d → has_name (filter p names) n ≡ (has_name names n && d) →
        has_name (cond c (m ∷ filter p names) (filter p names)) n ≡ ((b || has_name names n) && d)
    go true s true q true r h = ap (λ b. b || has_name (filter p names) n) s
    go true s false q false r h = h ∙ no (has_name names n)
      where
        no : (b : Bool) → (b && false) ≡ false
        no true = refl
        no false = refl
    go true s true q false r h = absurd (let e : true ≡ false = sym q ∙ ap p (sym ((bytes_decides n m).0 s)) ∙ r in cc)
    go true s false q true r h = absurd (let e : false ≡ true = sym q ∙ ap p (sym ((bytes_decides n m).0 s)) ∙ r in cc)
    go false s true q d r h = ap (λ b. b || has_name (filter p names) n) s ∙ h
    go false s false q d r h = h
