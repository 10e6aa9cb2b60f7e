-- One more row in a grouping.
use Rattle.std.proofs.Common.{◌≡◌, ℕ, suc, ◌+◌, ◌<◌, ◌≤◌, ◌⊎◌, inl, inr, set, Bool, true, false, not, cond, ◌||◌, List, [], ◌∷◌, ◌++◌, map, filter, fold, length, get_or, refl, sym, ap, subst, ◌∙◌, true≢false, if◌then◌else◌, arith, append-nil, append_assoc, rules}
use Rattle.std.specs.List.{list_any, position_or_len}
use Rattle.std.proofs.lemmas.List.{map-append, set_split, get_or_default}
use Rattle.std.proofs.Math.Seq.{set-append_seam}
use Rattle.std.proofs.lemmas.Bool.{or_parts}
use Rattle.std.proofs.lemmas.List.Elements.{filter-append}
use Rattle.std.proofs.lemmas.List.Sums.{fold-append}
use Rattle.std.specs.Cmp.{IsEquivalence}
use Rattle.indexmap.specs.IndexSet.{insert_key}
use Rattle.fq_ops.specs.Aggregate.{first_seen}
use Rattle.fq_column.specs.contracts.cells.CellPartialEq.TheImpl.{eq-value}
use Rattle.fq_column.specs.contracts.cells.CellEq.TheImpl.Laws.{laws-law}
use Rattle.fq_ops.specs.Group.{same_key}
use Rattle.std.proofs.lemmas.Cmp.{lists_equiv}
use Rattle.fq_column.specs.declared.cells.Cell.{Cell}
use Rattle.fq_column.specs.Cell.{same_cell}
use Rattle.fq_ops.specs.Grouping.{replaced, keys_seen, rows_with, state_of, states_of, with_row, IsGrouping}

module _ {K : Type 0} (eq : K → K → Bool) where
  -- no item is equal to a later one
  abbrev pub Distinct : List K → Type 0
  Distinct [] = Unit {0}
  Distinct (x ∷ xs) = (list_any (eq x) xs ≡ false) × Distinct xs

  -- an insertion behind a key that differs
  insert_key-past : (x a : K) (rest : List K) → eq x a ≡ false → insert_key eq (a ∷ rest) x ≡ a ∷ insert_key eq rest x
  insert_key-past x a rest e = by (list_any (eq x) rest) refl
    where
      by : (b : Bool) → list_any (eq x) rest ≡ b → insert_key eq (a ∷ rest) x ≡ a ∷ insert_key eq rest x
      by true h = ap (λ c. if (c || list_any (eq x) rest) then a ∷ rest else (a ∷ rest) ++ x ∷ []) e ∙ ap (λ c. if c then a ∷ rest else (a ∷ rest) ++ x ∷ []) h ∙ sym (ap (λ c. a ∷ (if c then rest else rest ++ x ∷ [])) h)
      by false h = ap (λ c. if (c || list_any (eq x) rest) then a ∷ rest else (a ∷ rest) ++ x ∷ []) e ∙ ap (λ c. if c then a ∷ rest else (a ∷ rest) ++ x ∷ []) h ∙ sym (ap (λ c. a ∷ (if c then rest else rest ++ x ∷ [])) h)

  insert_key-here : (x a : K) (rest : List K) → eq x a ≡ true → insert_key eq (a ∷ rest) x ≡ a ∷ rest
  insert_key-here x a rest e = ap (λ c. if (c || list_any (eq x) rest) then a ∷ rest else (a ∷ rest) ++ x ∷ []) e

  -- whether some item is equal to x, if the filter drops no such item
  any-filter : (x : K) (p : K → Bool) → ((y : K) → eq x y ≡ true → p y ≡ true) → (ks : List K) → list_any (eq x) (filter p ks) ≡ list_any (eq x) ks
  any-filter x p keeps [] = refl
  any-filter x p keeps (a ∷ rest) = by (p a) refl (eq x a) refl (any-filter x p keeps rest)
    where
      by : (b : Bool) → p a ≡ b → (c : Bool) → eq x a ≡ c → list_any (eq x) (filter p rest) ≡ list_any (eq x) rest → list_any (eq x) (filter p (a ∷ rest)) ≡ list_any (eq x) (a ∷ rest)
      by true h c g tail = ap (λ b. list_any (eq x) (cond b (a ∷ filter p rest) (filter p rest))) h ∙ ap (λ r. eq x a || r) tail
      by false h true g tail = absurd (true≢false (sym (keeps a g) ∙ h))
      by false h false g tail = ap (λ b. list_any (eq x) (cond b (a ∷ filter p rest) (filter p rest))) h ∙ tail ∙ sym (ap (λ r. r || list_any (eq x) rest) g)

  -- what is not among a list is not behind its first item
  none-behind : (x a : K) (rest : List K) → list_any (eq x) (a ∷ rest) ≡ false → (eq x a ≡ false) × (list_any (eq x) rest ≡ false)
  none-behind x a rest h = or_parts (eq x a) (list_any (eq x) rest) h

  any-filter_false : (x : K) (p : K → Bool) (ks : List K) → list_any (eq x) ks ≡ false → list_any (eq x) (filter p ks) ≡ false
  any-filter_false x p [] h = refl
  any-filter_false x p (a ∷ rest) h = by (p a) refl (any-filter_false x p rest (none-behind x a rest h).1)
    where
      by : (b : Bool) → p a ≡ b → list_any (eq x) (filter p rest) ≡ false → list_any (eq x) (filter p (a ∷ rest)) ≡ false
      by true e tail = ap (λ b. list_any (eq x) (cond b (a ∷ filter p rest) (filter p rest))) e ∙ ap (λ r. r || list_any (eq x) (filter p rest)) (none-behind x a rest h).0 ∙ tail
      by false e tail = ap (λ b. list_any (eq x) (cond b (a ∷ filter p rest) (filter p rest))) e ∙ tail

  Distinct-filter : (p : K → Bool) (ks : List K) → Distinct ks → Distinct (filter p ks)
  Distinct-filter p [] d = tt
  Distinct-filter p (a ∷ rest) d = by (p a) refl (Distinct-filter p rest d.1)
    where
      by : (b : Bool) → p a ≡ b → Distinct (filter p rest) → Distinct (filter p (a ∷ rest))
      by true e tail = subst (λ b. Distinct (cond b (a ∷ filter p rest) (filter p rest))) (sym e) (any-filter_false a p rest d.0, tail)
      by false e tail = subst (λ b. Distinct (cond b (a ∷ filter p rest) (filter p rest))) (sym e) tail

  -- none is left that is equal to a
  any-dropped : (a : K) (ks : List K) → list_any (eq a) (filter (λ y. not (eq a y)) ks) ≡ false
  any-dropped a [] = refl
  any-dropped a (x ∷ xs) = by (eq a x) refl (any-dropped a xs)
    where
      by : (b : Bool) → eq a x ≡ b → list_any (eq a) (filter (λ y. not (eq a y)) xs) ≡ false → list_any (eq a) (filter (λ y. not (eq a y)) (x ∷ xs)) ≡ false
      by true e tail = ap (λ b. list_any (eq a) (cond (not b) (x ∷ filter (λ y. not (eq a y)) xs) (filter (λ y. not (eq a y)) xs))) e ∙ tail
      by false e tail = ap (λ b. list_any (eq a) (cond (not b) (x ∷ filter (λ y. not (eq a y)) xs) (filter (λ y. not (eq a y)) xs))) e ∙ ap (λ r. r || list_any (eq a) (filter (λ y. not (eq a y)) xs)) e ∙ tail

  pub Distinct-first_seen : (ks : List K) → Distinct (first_seen eq ks)
  Distinct-first_seen [] = tt
  Distinct-first_seen (a ∷ rest) = (any-dropped a (first_seen eq rest), Distinct-filter (λ y. not (eq a y)) (first_seen eq rest) (Distinct-first_seen rest))

module _ {K : Type 0} (eq : K → K → Bool) (laws : IsEquivalence eq) where
  -- what is equal to x is kept, if x differs from a
  kept : (x a : K) → eq x a ≡ false → (y : K) → eq x y ≡ true → not (eq a y) ≡ true
  kept x a e y h = ap not (laws.symm a y ∙ sym (laws.congr x y a h) ∙ e)

  abbrev differs : K → K → Bool
  differs a y = not (eq a y)

  abbrev inserted : K → List K → Bool → List K
  inserted x ks c = if c then ks else ks ++ x ∷ []

  -- the filter of an insertion
  filter-insert_key : (x a : K) (ks : List K) → a ∷ filter (differs a) (insert_key eq ks x) ≡ insert_key eq (a ∷ filter (differs a) ks) x
  filter-insert_key x a ks = by (eq x a) refl (list_any (eq x) ks) refl
    where
      by : (b : Bool) → eq x a ≡ b → (c : Bool) → list_any (eq x) ks ≡ c → a ∷ filter (differs a) (insert_key eq ks x) ≡ insert_key eq (a ∷ filter (differs a) ks) x
      by true e true h = ap (λ c. a ∷ filter (differs a) (inserted x ks c)) h ∙ sym (insert_key-here eq x a (filter (differs a) ks) e)
      by false e true h = ap (λ c. a ∷ filter (differs a) (inserted x ks c)) h ∙ sym (insert_key-past eq x a (filter (differs a) ks) e ∙ ap (λ c. a ∷ inserted x (filter (differs a) ks) c) (any-filter eq x (differs a) (kept x a e) ks ∙ h))
      by true e false h = ap (λ c. a ∷ filter (differs a) (inserted x ks c)) h ∙ ap (λ l. a ∷ l) (filter-append (differs a) ks (x ∷ []) ∙ ap (λ b. filter (differs a) ks ++ cond (not b) (x ∷ []) []) (laws.symm a x ∙ e) ∙ append-nil (filter (differs a) ks)) ∙ sym (insert_key-here eq x a (filter (differs a) ks) e)
      by false e false h = ap (λ c. a ∷ filter (differs a) (inserted x ks c)) h ∙ ap (λ l. a ∷ l) (filter-append (differs a) ks (x ∷ []) ∙ ap (λ b. filter (differs a) ks ++ cond (not b) (x ∷ []) []) (laws.symm a x ∙ e)) ∙ sym (insert_key-past eq x a (filter (differs a) ks) e ∙ ap (λ c. a ∷ inserted x (filter (differs a) ks) c) (any-filter eq x (differs a) (kept x a e) ks ∙ h))

  -- one more key
  pub first_seen-push : (ks : List K) (x : K) → first_seen eq (ks ++ x ∷ []) ≡ insert_key eq (first_seen eq ks) x
  first_seen-push [] x = refl
  first_seen-push (a ∷ rest) x = ap (λ l. a ∷ filter (differs a) l) (first_seen-push rest x) ∙ filter-insert_key x a (first_seen eq rest)

  -- a key is among those seen exactly when it is among all
  pub any-first_seen : (x : K) (ks : List K) → list_any (eq x) (first_seen eq ks) ≡ list_any (eq x) ks
  any-first_seen x [] = refl
  any-first_seen x (a ∷ rest) = by (eq x a) refl (any-first_seen x rest)
    where
      by : (b : Bool) → eq x a ≡ b → list_any (eq x) (first_seen eq rest) ≡ list_any (eq x) rest → list_any (eq x) (first_seen eq (a ∷ rest)) ≡ list_any (eq x) (a ∷ rest)
      by true e tail = ap (λ b. b || list_any (eq x) (filter (λ y. not (eq a y)) (first_seen eq rest))) e ∙ sym (ap (λ b. b || list_any (eq x) rest) e)
      by false e tail = ap (λ r. eq x a || r) (any-filter eq x (λ y. not (eq a y)) (kept x a e) (first_seen eq rest) ∙ tail)

  module _ {S : Type 0} (F G : K → S) (x : K) (v : S → S) (init : S)
      (same : (k : K) → eq k x ≡ true → G k ≡ v (F k)) (other : (k : K) → eq k x ≡ false → G k ≡ F k) where
    map-others : (a : K) → eq x a ≡ true → (ks : List K) → list_any (eq a) ks ≡ false → map G ks ≡ map F ks
    map-others a e [] h = refl
    map-others a e (b ∷ bs) h =
        let apart = or_parts (eq a b) (list_any (eq a) bs) h in
        ap (λ y. y ∷ map G bs) (other b (laws.symm b x ∙ laws.congr x a b e ∙ apart.0)) ∙ ap (λ l. F b ∷ l) (map-others a e bs apart.1)

    abbrev at : List K → ℕ → List S
    at ks i = replaced i (v (get_or (map F ks) i init)) (map F ks)

    -- the states of keys, where that of x is stepped and the others stay
    pub map-stepped : (ks : List K) → Distinct eq ks → (list_any (eq x) ks ≡ false → G x ≡ v init) →
        let i = position_or_len (eq x) ks in map G (insert_key eq ks x) ≡ replaced i (v (get_or (map F ks) i init)) (map F ks)
    map-stepped [] d new = ap (λ y. y ∷ []) (new refl)
    map-stepped (a ∷ rest) d new = by (eq x a) refl (λ e. map-stepped rest d.1 (λ h. new (ap (λ c. c || list_any (eq x) rest) e ∙ h)))
      where
        by : (c : Bool) → eq x a ≡ c → (eq x a ≡ false → map G (insert_key eq rest x) ≡ at rest (position_or_len (eq x) rest)) → map G (insert_key eq (a ∷ rest) x) ≡ at (a ∷ rest) (position_or_len (eq x) (a ∷ rest))
        by true e tail = ap (map G) (insert_key-here eq x a rest e) ∙ ap (λ y. y ∷ map G rest) (same a (laws.symm a x ∙ e)) ∙ ap (λ l. v (F a) ∷ l) (map-others a e rest d.0)
            ∙ sym (ap (λ c. at (a ∷ rest) (cond (not c) (1 + position_or_len (eq x) rest) 0)) e)
        by false e tail = ap (map G) (insert_key-past eq x a rest e) ∙ ap (λ y. y ∷ map G (insert_key eq rest x)) (other a (laws.symm a x ∙ e))
            ∙ ap (λ l. F a ∷ l) (tail e)
            ∙ sym (ap (λ c. at (a ∷ rest) (cond (not c) (1 + position_or_len (eq x) rest) 0)) e ∙ ap (at (a ∷ rest)) (let f : 1 + position_or_len (eq x) rest ≡ suc (position_or_len (eq x) rest) = omega arith in f))

module _ {K R : Type 0} (eq : K → K → Bool) (laws : IsEquivalence eq) (key : R → K) where
  pub keys_seen-push : (rows : List R) (r : R) → keys_seen eq key (rows ++ r ∷ []) ≡ insert_key eq (keys_seen eq key rows) (key r)
  keys_seen-push rows r = ap (first_seen eq) (map-append key rows (r ∷ [])) ∙ first_seen-push eq laws (map key rows) (key r)

  pub none_with : (k : K) (rows : List R) → list_any (eq k) (map key rows) ≡ false → rows_with eq key rows k ≡ []
  none_with k [] h = refl
  none_with k (r ∷ rows) h =
      let apart = or_parts (eq k (key r)) (list_any (eq k) (map key rows)) h in
      ap (λ b. cond b (r ∷ rows_with eq key rows k) (rows_with eq key rows k)) apart.0 ∙ none_with k rows apart.1

  module _ {S : Type 0} (step : S → R → S) (init : S) where
    state-push : (rows : List R) (r : R) (k : K) → state_of eq key step init (rows ++ r ∷ []) k ≡ fold step (state_of eq key step init rows k) (cond (eq k (key r)) (r ∷ []) [])
    state-push rows r k = ap (fold step init) (filter-append (λ q. eq k (key q)) rows (r ∷ [])) ∙ fold-append step init (rows_with eq key rows k) (cond (eq k (key r)) (r ∷ []) [])

    -- one more row: the state of its key takes a step, or a new state goes last
    pub states-push : (rows : List R) (r : R) → let i = position_or_len (eq (key r)) (keys_seen eq key rows) in
        states_of eq key step init (rows ++ r ∷ []) ≡ replaced i (step (get_or (states_of eq key step init rows) i init) r) (states_of eq key step init rows)
    states-push rows r =
        ap (map (state_of eq key step init (rows ++ r ∷ []))) (keys_seen-push rows r)
        ∙ map-stepped eq laws (state_of eq key step init rows) (state_of eq key step init (rows ++ r ∷ [])) (key r) (λ s. step s r) init
        (λ k e. state-push rows r k ∙ ap (λ b. fold step (state_of eq key step init rows k) (cond b (r ∷ []) [])) e)
        (λ k e. state-push rows r k ∙ ap (λ b. fold step (state_of eq key step init rows k) (cond b (r ∷ []) [])) e)
        (keys_seen eq key rows) (Distinct-first_seen eq (map key rows))
        (λ h. state-push rows r (key r) ∙ ap (λ b. fold step (state_of eq key step init rows (key r)) (cond b (r ∷ []) [])) (laws.refl (key r))
        ∙ ap (λ l. step (fold step init l) r) (none_with (key r) rows (sym (any-first_seen eq laws (key r) (map key rows)) ∙ h)))

-- gs is xs, or xs with one item d more if i is its end
abbrev pub Grown : {X : Type 0} → List X → List X → ℕ → X → Type 0
Grown xs gs i d = ((i ≡ length xs) × (gs ≡ xs ++ d ∷ [])) ⊎ ((i < length xs) × (gs ≡ xs))

get_or-end : {X : Type 0} (xs : List X) (d e : X) → get_or (xs ++ d ∷ []) (length xs) e ≡ d
get_or-end [] d e = refl
get_or-end (x ∷ xs) d e = get_or-end xs d e

get_or-past : {X : Type 0} (xs : List X) (d : X) → get_or xs (length xs) d ≡ d
get_or-past [] d = refl
get_or-past (x ∷ xs) d = get_or-past xs d

replaced-end : {X : Type 0} (xs : List X) (y : X) → replaced (length xs) y xs ≡ xs ++ y ∷ []
replaced-end [] y = refl
replaced-end (x ∷ xs) y = ap (λ l. x ∷ l) (replaced-end xs y)

-- a write at place i of it
pub grown-written : {X : Type 0} (f : X → X) (xs gs : List X) (i p : ℕ) (d g y : X) → Grown xs gs i d → i ≡ p → g ≡ get_or gs i g → y ≡ f g → set gs i y ≡ replaced p (f (get_or xs p d)) xs
grown-written f xs gs i p d g y (inl (e, h)) at is w =
    let here : i ≡ length xs = e in
    let last : p ≡ length xs = sym at ∙ e in
    let was : g ≡ d = is ∙ ap (λ l. get_or l i g) h ∙ ap (λ j. get_or (xs ++ d ∷ []) j g) here ∙ get_or-end xs d g in
    ap (λ l. set l i y) h ∙ ap (λ j. set (xs ++ d ∷ []) j y) here ∙ set-append_seam xs d [] y
    ∙ ap (λ z. xs ++ z ∷ []) (w ∙ ap f (was ∙ sym (get_or-past xs d))) ∙ sym (replaced-end xs (f (get_or xs (length xs) d)))
    ∙ ap (λ j. replaced j (f (get_or xs j d)) xs) (sym last)
grown-written f xs gs i p d g y (inr (e, h)) at is w =
    ap (λ l. set l i y) h ∙ set_split xs i y e ∙ ap (λ z. replaced i z xs) (w ∙ ap f (is ∙ ap (λ l. get_or l i g) h ∙ get_or_default xs i g d e))
    ∙ ap (λ j. replaced j (f (get_or xs j d)) xs) at

-- two functions of two arguments that agree are equal
pub same_fn : {A B C : Type 0} (f g : A → B → C) → ((a : A) (b : B) → f a b ≡ g a b) → f ≡ g
same_fn f g h = λ i a b. h a b i

pub position-within : {X : Type 0} (p : X → Bool) (xs : List X) → position_or_len p xs ≤ length xs
position-within p [] = omega arith
position-within p (x ∷ xs) = by (p x) refl (position-within p xs)
  where
    by : (b : Bool) → p x ≡ b → position_or_len p xs ≤ length xs → position_or_len p (x ∷ xs) ≤ length (x ∷ xs)
    by true e h = subst (λ b. cond (not b) (1 + position_or_len p xs) 0 ≤ suc (length xs)) (sym e) (omega arith)
    by false e h = subst (λ b. cond (not b) (1 + position_or_len p xs) 0 ≤ suc (length xs)) (sym e) (omega arith)

same_cells : (a b : Cell) → eq-value.it a b ≡ same_cell a b
same_cells a b = search rules

pub same_cell_laws : IsEquivalence same_cell
same_cell_laws = subst (λ E. IsEquivalence E) (same_fn eq-value.it same_cell same_cells) laws-law

-- equality of keys is an equivalence
pub same_key_laws : IsEquivalence same_key
same_key_laws = lists_equiv same_cell_laws

module _ {K : Type 0} (eq : K → K → Bool) (x : K) where
  -- how many keys there are after an insertion, by the place of the key
  abbrev GrowsBy : List K → ℕ → Type 0
  GrowsBy ks i = (i ≡ length ks → length (insert_key eq ks x) ≡ suc (length ks)) × (i < length ks → length (insert_key eq ks x) ≡ length ks)

  pub length-insert_key : (ks : List K) → GrowsBy ks (position_or_len (eq x) ks)
  length-insert_key [] = (λ _. refl, λ h. absurd (omega arith))
  length-insert_key (a ∷ rest) = by (eq x a) refl (length-insert_key rest)
    where
      by : (c : Bool) → eq x a ≡ c → GrowsBy rest (position_or_len (eq x) rest) → GrowsBy (a ∷ rest) (position_or_len (eq x) (a ∷ rest))
      by true e h = subst (λ c. GrowsBy (a ∷ rest) (cond (not c) (1 + position_or_len (eq x) rest) 0)) (sym e) (λ z. absurd (omega (arith, z)), λ z. ap length (insert_key-here eq x a rest e))
      by false e h = subst (λ c. GrowsBy (a ∷ rest) (cond (not c) (1 + position_or_len (eq x) rest) 0)) (sym e)
          (λ z. ap length (insert_key-past eq x a rest e) ∙ ap suc (h.0 (omega (arith, z))), λ z. ap length (insert_key-past eq x a rest e) ∙ ap suc (h.1 (omega (arith, z))))

-- one more row in a grouping
pub grouping-push : {R : Type 0} (key : R → List Cell) (seen seen' : List (List Cell)) (groups groups' : List (List R)) (rows : List R) (row : R) → IsGrouping key seen groups rows →
    seen' ≡ insert_key same_key seen (key row) → groups' ≡ replaced (position_or_len (same_key (key row)) seen) (with_row (get_or groups (position_or_len (same_key (key row)) seen) []) row) groups →
    IsGrouping key seen' groups' (rows ++ row ∷ [])
grouping-push key seen seen' groups groups' rows row h s g = record {
  seen_is = s ∙ ap (λ ks. insert_key same_key ks (key row)) h.seen_is ∙ sym (keys_seen-push same_key same_key_laws key rows row);
  groups_are = g ∙ ap (λ gs. replaced (position_or_len (same_key (key row)) seen) (with_row (get_or gs (position_or_len (same_key (key row)) seen) []) row) gs) h.groups_are
      ∙ ap (λ ks. replaced (position_or_len (same_key (key row)) ks) (with_row (get_or (states_of same_key key with_row [] rows) (position_or_len (same_key (key row)) ks) []) row) (states_of same_key key with_row [] rows)) h.seen_is
      ∙ sym (states-push same_key same_key_laws key with_row [] rows row);
}

-- ---- the rows of each key

pub fold-with_row : {R : Type 0} (rows more : List R) → fold with_row rows more ≡ rows ++ more
fold-with_row rows [] = sym (append-nil rows)
fold-with_row rows (r ∷ more) = fold-with_row (rows ++ r ∷ []) more ∙ append_assoc rows (r ∷ []) more

-- the states by `with_row` are the rows of each key
pub states-rows : {R : Type 0} (key : R → List Cell) (rows : List R) → states_of same_key key with_row [] rows ≡ map (rows_with same_key key rows) (keys_seen same_key key rows)
states-rows key rows = λ i. map (λ k. fold-with_row [] (rows_with same_key key rows k) i) (keys_seen same_key key rows)
