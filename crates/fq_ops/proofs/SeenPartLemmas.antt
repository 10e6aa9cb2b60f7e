-- Keys that are seen part by part, and the rows of one key.
use Rattle.std.proofs.Common.{◌≡◌, Bool, true, false, not, cond, ◌||◌, List, [], ◌∷◌, ◌++◌, filter, fold, refl, sym, ap, ◌∙◌, if◌then◌else◌, append_assoc, append-nil}
use Rattle.std.specs.List.{list_any, flat_map}
use Rattle.std.specs.Cmp.{IsEquivalence}
use Rattle.indexmap.specs.IndexSet.{insert_key}
use Rattle.fq_ops.specs.Aggregate.{first_seen}
use Rattle.fq_ops.proofs.GroupLemmas.{first_seen-push}

module _ {K : Type 0} (eq : K → K → Bool) (laws : IsEquivalence eq) where
  -- keys that are inserted one after another
  abbrev inserted : List K → List K → List K
  inserted seen ks = fold (insert_key eq) seen ks

  seen-inserted : (before ks : List K) → first_seen eq (before ++ ks) ≡ inserted (first_seen eq before) ks
  seen-inserted before [] = ap (first_seen eq) (append-nil before)
  seen-inserted before (k ∷ ks) =
      ap (first_seen eq) (sym (append_assoc before (k ∷ []) ks)) ∙ seen-inserted (before ++ k ∷ []) ks ∙ ap (λ s. inserted s ks) (first_seen-push eq laws before k)

  any-append : (t : K → Bool) (l more : List K) → list_any t (l ++ more) ≡ (list_any t l || list_any t more)
  any-append t [] more = refl
  any-append t (x ∷ l) more = by (t x) (any-append t l more)
    where
      by : (b : Bool) → list_any t (l ++ more) ≡ (list_any t l || list_any t more) → (b || list_any t (l ++ more)) ≡ ((b || list_any t l) || list_any t more)
      by true e = refl
      by false e = e

  -- a key that is there stays there
  stays : (y z : K) (seen : List K) → list_any (eq y) seen ≡ true → list_any (eq y) (insert_key eq seen z) ≡ true
  stays y z seen h = by (list_any (eq z) seen) refl
    where
      by : (b : Bool) → list_any (eq z) seen ≡ b → list_any (eq y) (insert_key eq seen z) ≡ true
      by true e = ap (λ b. list_any (eq y) (if b then seen else seen ++ z ∷ [])) e ∙ h
      by false e = ap (λ b. list_any (eq y) (if b then seen else seen ++ z ∷ [])) e ∙ any-append (eq y) seen (z ∷ []) ∙ ap (λ b. b || list_any (eq y) (z ∷ [])) h

  -- a key that was inserted is there
  goes_in : (y : K) (seen : List K) → list_any (eq y) (insert_key eq seen y) ≡ true
  goes_in y seen = by (list_any (eq y) seen) refl
    where
      by : (b : Bool) → list_any (eq y) seen ≡ b → list_any (eq y) (insert_key eq seen y) ≡ true
      by true e = ap (λ b. list_any (eq y) (if b then seen else seen ++ y ∷ [])) e ∙ e
      by false e = ap (λ b. list_any (eq y) (if b then seen else seen ++ y ∷ [])) e ∙ any-append (eq y) seen (y ∷ []) ∙ (λ i. e i || (laws.refl y i || false))

  any-same : (y z : K) (l : List K) → eq y z ≡ true → list_any (eq y) l ≡ list_any (eq z) l
  any-same y z [] e = refl
  any-same y z (x ∷ l) e = λ i. laws.congr y z x e i || any-same y z l e i

  -- keys that are there change nothing
  inserted-others : (y : K) (seen ks : List K) → list_any (eq y) seen ≡ true → inserted seen (filter (λ z. not (eq y z)) ks) ≡ inserted seen ks
  inserted-others y seen [] h = refl
  inserted-others y seen (z ∷ ks) h = by (eq y z) refl (inserted-others y seen ks h) (inserted-others y (insert_key eq seen z) ks (stays y z seen h))
    where
      by : (b : Bool) → eq y z ≡ b → inserted seen (filter (λ x. not (eq y x)) ks) ≡ inserted seen ks →
          inserted (insert_key eq seen z) (filter (λ x. not (eq y x)) ks) ≡ inserted (insert_key eq seen z) ks → inserted seen (filter (λ x. not (eq y x)) (z ∷ ks)) ≡ inserted seen (z ∷ ks)
      by true e same more =
          ap (λ b. inserted seen (cond (not b) (z ∷ filter (λ x. not (eq y x)) ks) (filter (λ x. not (eq y x)) ks))) e ∙ same
          ∙ sym (ap (λ b. inserted (if b then seen else seen ++ z ∷ []) ks) (sym (any-same y z seen e) ∙ h))
      by false e same more = ap (λ b. inserted seen (cond (not b) (z ∷ filter (λ x. not (eq y x)) ks) (filter (λ x. not (eq y x)) ks))) e ∙ more

  inserted-seen : (seen ks : List K) → inserted seen (first_seen eq ks) ≡ inserted seen ks
  inserted-seen seen [] = refl
  inserted-seen seen (k ∷ ks) =
      inserted-others k (insert_key eq seen k) (first_seen eq ks) (goes_in k seen) ∙ inserted-seen (insert_key eq seen k) ks

  inserted-append : (seen ks more : List K) → inserted seen (ks ++ more) ≡ inserted (inserted seen ks) more
  inserted-append seen [] more = refl
  inserted-append seen (k ∷ ks) more = inserted-append (insert_key eq seen k) ks more

  -- of the keys seen in each part, those seen are those seen in all of them
  module _ {P : Type 0} (keys : P → List K) where
    along : (seen : List K) (parts : List P) → inserted seen (flat_map (λ p. first_seen eq (keys p)) parts) ≡ inserted seen (flat_map keys parts)
    along seen [] = refl
    along seen (p ∷ parts) =
        inserted-append seen (first_seen eq (keys p)) (flat_map (λ q. first_seen eq (keys q)) parts)
        ∙ along (inserted seen (first_seen eq (keys p))) parts
        ∙ ap (λ s. inserted s (flat_map keys parts)) (inserted-seen seen (keys p))
        ∙ sym (inserted-append seen (keys p) (flat_map keys parts))

    pub seen-of_parts : (parts : List P) → first_seen eq (flat_map (λ p. first_seen eq (keys p)) parts) ≡ first_seen eq (flat_map keys parts)
    seen-of_parts parts =
        seen-inserted [] (flat_map (λ p. first_seen eq (keys p)) parts) ∙ along [] parts ∙ sym (seen-inserted [] (flat_map keys parts))
