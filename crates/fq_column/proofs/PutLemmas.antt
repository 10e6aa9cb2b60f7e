-- Putting a value under a name: in the place of the name, or else last.
use Rattle.std.proofs.Common.{◌≡◌, ℕ, suc, ◌+◌, ◌≤◌, Bool, true, false, cond, not, ◌&&◌, ◌||◌, List, [], ◌∷◌, ◌++◌, length, map, nat_lt, Option, Some, None, refl, ap, sym, ◌∙◌, arith, set}
use Rattle.std.specs.Prelude.{option_map}
use Rattle.std.specs.List.{position, list_any, prefix_len, zip}
use Rattle.std.specs.Cmp.Lexicographic.{bytes_decides, nat_list_eq_equiv}
use Rattle.std.proofs.lemmas.Bool.{and_from}
use Rattle.std.specs.Cmp.{first_so, second_so}
use Rattle.std.proofs.lemmas.Bool.Decides.{nat_tests}
use Rattle.fq_column.specs.Frame.{Name, Field, Fields, IsSchema, same_name, position_of, put_named}
use Rattle.fq_column.specs.Lists.{is_distinct}

-- the place of the first that passes, in a list with one more in front
pub position-cons : {X : Type 0} (p : X → Bool) (x : X) (xs : List X) → position p (x ∷ xs) ≡ cond (p x) (Some 0) (option_map suc (position p xs))
position-cons p x xs = go (p x) (prefix_len (λ y. not (p y)) xs) (length xs)
  where
    one_more : (q n : ℕ) → nat_lt (1 + q) (suc n) ≡ nat_lt q n
    one_more q n = grind (arith, nat_tests)

    next : (b : Bool) (q : ℕ) → (let none : Option ℕ = None in cond b (Some (1 + q)) none) ≡ option_map suc (let none : Option ℕ = None in cond b (Some q) none)
    next true q = ap Some (let e : 1 + q ≡ suc q = omega arith in e)
    next false q = refl

    at_zero : (n : ℕ) → nat_lt 0 (suc n) ≡ true
    at_zero n = grind (arith, nat_tests)

    go : (b : Bool) (q n : ℕ) → (let none : Option ℕ = None in cond (nat_lt (cond (not b) (1 + q) 0) (suc n)) (Some (cond (not b) (1 + q) 0)) none) ≡ cond b (Some 0) (option_map suc (let none : Option ℕ = None in cond (nat_lt q n) (Some q) none))
    go true q n = ap (λ b. let none : Option ℕ = None in cond b (Some 0) none) (at_zero n)
    go false q n = ap (λ b. let none : Option ℕ = None in cond b (Some (1 + q)) none) (one_more q n) ∙ next (nat_lt q n) q

-- what one more in front changes
pub some_under : (o : Option ℕ) (i : ℕ) → option_map suc o ≡ Some i → (j : ℕ) × (o ≡ Some j) × (suc j ≡ i)
some_under None i f = absurd (cc)
some_under (Some j) i f = (j, refl, cc)

pub none_under : (o : Option ℕ) → option_map suc o ≡ None → o ≡ None
none_under None f = refl
none_under (Some j) f = absurd (cc)

module _ {X : Type 0} where
  -- at most one more
  pub length-put_named-most : (ps : List (Name × X)) (x : Name × X) → length (put_named ps x) ≤ suc (length ps)
  length-put_named-most [] x = omega arith
  length-put_named-most (p ∷ ps) x = go (length-put_named-most ps x) (same_name x.0 p.0)
    where
      go : length (put_named ps x) ≤ suc (length ps) → (b : Bool) → length (cond b (x ∷ ps) (p ∷ put_named ps x)) ≤ suc (suc (length ps))
      go rest true = omega arith
      go rest false = omega (arith, rest)

  -- a name that is there is replaced
  pub put_named-at : (ps : List (Name × X)) (n : Name) (x : X) (i : ℕ) → position_of n (map (λ p. p.0) ps) ≡ Some i → put_named ps (n, x) ≡ set ps i (n, x)
  put_named-at [] n x i e = absurd (cc)
  put_named-at (p ∷ ps) n x i e = go (λ j f. put_named-at ps n x j f) (same_name n p.0) i (sym (position-cons (same_name n) p.0 (map (λ p. p.0) ps)) ∙ e)
    where
      go : ((j : ℕ) → position_of n (map (λ p. p.0) ps) ≡ Some j → put_named ps (n, x) ≡ set ps j (n, x)) → (b : Bool) (i : ℕ) →
          cond b (Some 0) (option_map suc (position_of n (map (λ p. p.0) ps))) ≡ Some i → cond b ((n, x) ∷ ps) (p ∷ put_named ps (n, x)) ≡ set (p ∷ ps) i (n, x)
      go rest true i f = let e : 0 ≡ i = cc in ap (λ j. set (p ∷ ps) j (n, x)) e
      go rest false i f = let w = some_under (position_of n (map (λ p. p.0) ps)) i f in ap (λ qs. p ∷ qs) (rest w.0 w.1) ∙ ap (λ j. set (p ∷ ps) j (n, x)) w.2

  -- a new name goes last
  pub put_named-new : (ps : List (Name × X)) (n : Name) (x : X) → position_of n (map (λ p. p.0) ps) ≡ None → put_named ps (n, x) ≡ ps ++ (n, x) ∷ []
  put_named-new [] n x e = refl
  put_named-new (p ∷ ps) n x e = go (λ f. put_named-new ps n x f) (same_name n p.0) (sym (position-cons (same_name n) p.0 (map (λ p. p.0) ps)) ∙ e)
    where
      go : (position_of n (map (λ p. p.0) ps) ≡ None → put_named ps (n, x) ≡ ps ++ (n, x) ∷ []) → (b : Bool) →
          cond b (Some 0) (option_map suc (position_of n (map (λ p. p.0) ps))) ≡ None → cond b ((n, x) ∷ ps) (p ∷ put_named ps (n, x)) ≡ p ∷ ps ++ (n, x) ∷ []
      go rest true f = absurd (cc)
      go rest false f = ap (λ qs. p ∷ qs) (rest (none_under (position_of n (map (λ p. p.0) ps)) f))

  pub length-put_named : (ps : List (Name × X)) (x : Name × X) → length ps ≤ length (put_named ps x)
  length-put_named [] x = omega arith
  length-put_named (p ∷ ps) x = elim (same_name x.0 p.0) as (λ b. length (p ∷ ps) ≤ length (cond b (x ∷ ps) (p ∷ put_named ps x))) [ true ↦ omega arith | false ↦ omega (arith, length-put_named ps x) ]

  -- a test that the name fails finds the same names
  pub list_any-put_named : (q : Name → Bool) (ps : List (Name × X)) (x : Name × X) → q x.0 ≡ false → list_any q (map (λ p. p.0) (put_named ps x)) ≡ list_any q (map (λ p. p.0) ps)
  list_any-put_named q [] x h = ap (λ b. b || false) h
  list_any-put_named q (p ∷ ps) x h = go (list_any-put_named q ps x h) (same_name x.0 p.0) refl
    where
      go : list_any q (map (λ p. p.0) (put_named ps x)) ≡ list_any q (map (λ p. p.0) ps) → (b : Bool) → same_name x.0 p.0 ≡ b → list_any q (map (λ p. p.0) (cond b (x ∷ ps) (p ∷ put_named ps x))) ≡ list_any q (map (λ p. p.0) (p ∷ ps))
      go rest true e = ap (λ n. q n || list_any q (map (λ p. p.0) ps)) ((bytes_decides x.0 p.0).0 e)
      go rest false e = ap (λ b. q p.0 || b) rest

  -- the names still differ
  pub is_distinct-put_named : (ps : List (Name × X)) (x : Name × X) → is_distinct same_name (map (λ p. p.0) ps) ≡ true → is_distinct same_name (map (λ p. p.0) (put_named ps x)) ≡ true
  is_distinct-put_named [] x h = refl
  is_distinct-put_named (p ∷ ps) x h = go (λ e. is_distinct-put_named ps x e) (same_name x.0 p.0) refl
    where
      go : (is_distinct same_name (map (λ p. p.0) ps) ≡ true → is_distinct same_name (map (λ p. p.0) (put_named ps x)) ≡ true) → (b : Bool) → same_name x.0 p.0 ≡ b → is_distinct same_name (map (λ p. p.0) (cond b (x ∷ ps) (p ∷ put_named ps x))) ≡ true
      go rest true e = ap (λ n. not (list_any (same_name n) (map (λ p. p.0) ps)) && is_distinct same_name (map (λ p. p.0) ps)) ((bytes_decides x.0 p.0).0 e) ∙ h
      go rest false e = and_from (not (list_any (same_name p.0) (map (λ p. p.0) (put_named ps x)))) (is_distinct same_name (map (λ p. p.0) (put_named ps x)))
          (ap not (list_any-put_named (same_name p.0) ps x (nat_list_eq_equiv.symm p.0 x.0 ∙ e)) ∙ first_so (not (list_any (same_name p.0) (map (λ p. p.0) ps))) (is_distinct same_name (map (λ p. p.0) ps)) h)
          (rest (second_so (not (list_any (same_name p.0) (map (λ p. p.0) ps))) (is_distinct same_name (map (λ p. p.0) ps)) h))

pub IsSchema-put_named : (fields : Fields) (f : Field) → IsSchema fields → length (put_named fields f) ≤ 64 → IsSchema (put_named fields f)
IsSchema-put_named fields f s h = record {
  some_column = omega (arith, length-put_named fields f, s.some_column);
  not_too_many = h;
  distinct = is_distinct-put_named fields f s.distinct;
}

-- a list under names, changed at a place or at the end
pub zip-set : {X : Type 0} (names : List Name) (xs : List X) (i : ℕ) (n : Name) (x : X) → length names ≡ length xs → position_of n names ≡ Some i →
    put_named (zip names xs) (n, x) ≡ zip names (set xs i x)
zip-set [] xs i n x s e = absurd (cc)
zip-set (m ∷ names) [] i n x s e = absurd (omega (arith, s))
zip-set (m ∷ names) (y ∷ xs) i n x s e = go (λ j f. zip-set names xs j n x (omega (arith, s)) f) (same_name n m) i refl (sym (position-cons (same_name n) m names) ∙ e)
  where
    go : ((j : ℕ) → position_of n names ≡ Some j → put_named (zip names xs) (n, x) ≡ zip names (set xs j x)) → (b : Bool) (i : ℕ) → same_name n m ≡ b → cond b (Some 0) (option_map suc (position_of n names)) ≡ Some i →
        cond b ((n, x) ∷ zip names xs) ((m, y) ∷ put_named (zip names xs) (n, x)) ≡ zip (m ∷ names) (set (y ∷ xs) i x)
    go rest true i b f = ap (λ (a : Name). (a, x) ∷ zip names xs) ((bytes_decides n m).0 b) ∙ ap (λ j. zip (m ∷ names) (set (y ∷ xs) j x)) (let z : 0 ≡ i = cc in z)
    go rest false i b f = let w = some_under (position_of n names) i f in
        ap (λ fs. (m, y) ∷ fs) (rest w.0 w.1) ∙ ap (λ j. zip (m ∷ names) (set (y ∷ xs) j x)) w.2

pub zip-push : {X : Type 0} (names : List Name) (xs : List X) (n : Name) (x : X) → length names ≡ length xs → zip (names ++ n ∷ []) (xs ++ x ∷ []) ≡ zip names xs ++ (n, x) ∷ []
zip-push [] [] n x s = refl
zip-push [] (y ∷ xs) n x s = absurd (omega (arith, s))
zip-push (m ∷ names) [] n x s = absurd (omega (arith, s))
zip-push (m ∷ names) (y ∷ xs) n x s = ap (λ fs. (m, y) ∷ fs) (zip-push names xs n x (omega (arith, s)))
