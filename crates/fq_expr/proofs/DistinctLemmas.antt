-- Distinct names that stand among others are no more than those.
use Rattle.std.proofs.Common.{◌≡◌, suc, ◌<◌, ◌≤◌, Bool, true, false, cond, not, ◌||◌, List, [], ◌∷◌, length, map, filter, refl, ap, ◌∙◌, arith}
use Rattle.std.specs.List.{list_any}
use Rattle.std.proofs.lemmas.List.{length-map}
use Rattle.std.specs.Cmp.{first_so, second_so}
use Rattle.std.specs.Cmp.Lexicographic.{bytes_decides}
use Rattle.std.proofs.lemmas.Bool.{or_right}
use Rattle.fq_column.specs.Frame.{Name, same_name, has_name, put_named, put_all}
use Rattle.fq_column.specs.Lists.{is_distinct}
use Rattle.fq_expr.proofs.OutputLemmas.{has_name-put_named}

-- the names but one
abbrev without : Name → List Name → List Name
without n names = filter (λ m. not (same_name n m)) names

length-without-le : (n : Name) (names : List Name) → length (without n names) ≤ length names
length-without-le n [] = omega arith
length-without-le n (m ∷ names) = go (same_name n m) (length-without-le n names)
  where
    go : (b : Bool) → length (without n names) ≤ length names → length (cond (not b) (m ∷ without n names) (without n names)) ≤ suc (length names)
    go true h = omega (arith, h)
    go false h = omega (arith, h)

length-without : (n : Name) (names : List Name) → has_name names n ≡ true → length (without n names) < length names
length-without n [] h = absurd (cc)
length-without n (m ∷ names) h = go (same_name n m) h (length-without-le n names) (λ e. length-without n names e)
  where
    go : (b : Bool) → (b || has_name names n) ≡ true → length (without n names) ≤ length names → (has_name names n ≡ true → length (without n names) < length names) →
        length (cond (not b) (m ∷ without n names) (without n names)) < suc (length names)
    go true h le rest = omega (arith, le)
    go false h le rest = let r = rest h in omega (arith, r)

has-without : (n p : Name) (names : List Name) → same_name n p ≡ false → has_name names p ≡ true → has_name (without n names) p ≡ true
has-without n p [] d h = absurd (cc)
has-without n p (m ∷ names) d h = go (same_name n m) refl (same_name p m) refl h (λ e. has-without n p names d e)
  where
    go : (a : Bool) → same_name n m ≡ a → (b : Bool) → same_name p m ≡ b → (b || has_name names p) ≡ true → (has_name names p ≡ true → has_name (without n names) p ≡ true) → has_name (cond (not a) (m ∷ without n names) (without n names)) p ≡ true
    go true e true f h rest = absurd (let g : same_name n p ≡ true = ap (same_name n) ((bytes_decides p m).0 f) ∙ e in cc)
    go true e false f h rest = rest h
    go false e true f h rest = ap (λ b. b || has_name (without n names) p) f
    go false e false f h rest = ap (λ b. b || has_name (without n names) p) f ∙ rest h

pub distinct-le : (xs ys : List Name) → is_distinct same_name xs ≡ true → ((n : Name) → has_name xs n ≡ true → has_name ys n ≡ true) → length xs ≤ length ys
distinct-le [] ys d h = omega arith
distinct-le (x ∷ xs) ys d h =
    let self : same_name x x ≡ true = (bytes_decides x x).1 refl in
    let here : has_name ys x ≡ true = h x (ap (λ b. b || has_name xs x) self) in
    let apart : not (list_any (same_name x) xs) ≡ true = first_so (not (list_any (same_name x) xs)) (is_distinct same_name xs) d in
    let rest = distinct-le xs (without x ys) (second_so (not (list_any (same_name x) xs)) (is_distinct same_name xs) d) (λ n e. has-without x n ys (other x xs n apart e) (h n (or_right (same_name n x) (has_name xs n) e))) in
    omega (arith, rest, length-without x ys here)
  where
    other : (x : Name) (xs : List Name) (n : Name) → not (list_any (same_name x) xs) ≡ true → has_name xs n ≡ true → same_name x n ≡ false
    other x xs n a e = go (same_name x n) refl
      where
        go : (b : Bool) → same_name x n ≡ b → b ≡ false
        go true f = absurd (let g : list_any (same_name x) xs ≡ true = ap (λ m. has_name xs m) ((bytes_decides x n).0 f) ∙ e in let k : not (list_any (same_name x) xs) ≡ false = ap not g in cc)
        go false f = refl

-- ---- the names of outputs that are put among columns

has-own : {X : Type 0} (ps : List (Name × X)) (x : Name × X) (n : Name) → same_name n x.0 ≡ true → has_name (map (λ p. p.0) (put_named ps x)) n ≡ true
has-own [] x n e = ap (λ b. b || false) e
has-own (p ∷ ps) x n e = go (same_name x.0 p.0) (has-own ps x n e)
  where
    go : (b : Bool) → has_name (map (λ p. p.0) (put_named ps x)) n ≡ true → has_name (map (λ p. p.0) (cond b (x ∷ ps) (p ∷ put_named ps x))) n ≡ true
    go true h = ap (λ b. b || has_name (map (λ p. p.0) ps) n) e
    go false h = or_right (same_name n p.0) (has_name (map (λ p. p.0) (put_named ps x)) n) h

has-put_all : {X : Type 0} (ps outs : List (Name × X)) (n : Name) → has_name (map (λ p. p.0) ps) n ≡ true → has_name (map (λ p. p.0) (put_all ps outs)) n ≡ true
has-put_all ps [] n h = h
has-put_all ps (o ∷ outs) n h = has-put_all (put_named ps o) outs n (has_name-put_named ps o n h)

has-out : {X : Type 0} (ps outs : List (Name × X)) (n : Name) → has_name (map (λ p. p.0) outs) n ≡ true → has_name (map (λ p. p.0) (put_all ps outs)) n ≡ true
has-out ps [] n h = absurd (cc)
has-out ps (o ∷ outs) n h = go (same_name n o.0) refl h (λ e. has-out (put_named ps o) outs n e)
  where
    go : (b : Bool) → same_name n o.0 ≡ b → (b || has_name (map (λ p. p.0) outs) n) ≡ true → (has_name (map (λ p. p.0) outs) n ≡ true → has_name (map (λ p. p.0) (put_all (put_named ps o) outs)) n ≡ true) →
        has_name (map (λ p. p.0) (put_all (put_named ps o) outs)) n ≡ true
    go true e h rest = has-put_all (put_named ps o) outs n (has-own ps o n e)
    go false e h rest = rest h

-- outputs of distinct names are no more than the columns after them
pub outputs-le : {X : Type 0} (ps outs : List (Name × X)) → is_distinct same_name (map (λ p. p.0) outs) ≡ true → length outs ≤ length (put_all ps outs)
outputs-le ps outs d = omega (arith, distinct-le (map (λ p. p.0) outs) (map (λ p. p.0) (put_all ps outs)) d (λ n. has-out ps outs n), length-map outs (λ p. p.0), length-map (put_all ps outs) (λ p. p.0))
