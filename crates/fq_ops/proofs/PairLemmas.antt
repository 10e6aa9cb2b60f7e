-- Places of rows by key, and pairs of them.
use Rattle.std.proofs.Common.{◌≡◌, ℕ, zero, suc, ◌+◌, ◌-◌, ◌<◌, ◌≤◌, Bool, true, false, not, cond, ◌||◌, ◌&&◌, List, [], ◌∷◌, ◌++◌, map, filter, length, get_or, Some, refl, sym, ap, subst, ◌∙◌, if◌then◌else◌, arith, rules, append-nil, inl, inr, ◌⊎◌}
use Rattle.std.specs.List.{list_any, position, position_or_len, range_with_len}
use Rattle.std.proofs.lemmas.List.Elements.{filter-append}
use Rattle.std.proofs.lemmas.List.Quantifiers.{position-Some}
use Rattle.std.proofs.lemmas.Bool.{le-leb, lt-leb}
use Rattle.fq_column.specs.declared.cells.Cell.{Cell}
use Rattle.fq_column.specs.declared.cells.Cell.TheVariants.{Null, Whole, Text, Truth}
use Rattle.fq_column.specs.Cell.{is_null, same_cell}
use Rattle.fq_column.specs.Lists.{numbers}
use Rattle.fq_ops.specs.Group.{same_key}
use Rattle.fq_ops.specs.Join.{keys_match}
use Rattle.indexmap.specs.IndexSet.{insert_key}
use Rattle.fq_ops.specs.Grouping.{IsGrouping, rows_with, replaced, with_row}
use Rattle.fq_ops.specs.Pairs.{Pair, can_match, places_with_key, matches_of, IsIndex, pairs_within}
use Rattle.fq_ops.proofs.RollLemmas.{numbers-more}
use Rattle.fq_ops.proofs.GroupLemmas.{none_with, any-first_seen, same_key_laws, grouping-push}
use Rattle.fq_ops.proofs.GroupLemmas.{states-rows}

pub places-more : (nulls_equal : Bool) (key : ℕ → List Cell) (n : ℕ) → places_with_key nulls_equal key (n + 1) ≡ places_with_key nulls_equal key n ++ cond (can_match nulls_equal (key n)) (n ∷ []) []
places-more nulls_equal key n = ap (filter (λ m. can_match nulls_equal (key m))) (numbers-more n) ∙ filter-append (λ m. can_match nulls_equal (key m)) (numbers n) (n ∷ [])

filter-filter : {X : Type 0} (p q : X → Bool) (xs : List X) → filter p (filter q xs) ≡ filter (λ x. q x && p x) xs
filter-filter p q [] = refl
filter-filter p q (x ∷ xs) = by (q x) refl (filter-filter p q xs)
  where
    by : (b : Bool) → q x ≡ b → filter p (filter q xs) ≡ filter (λ y. q y && p y) xs → filter p (filter q (x ∷ xs)) ≡ filter (λ y. q y && p y) (x ∷ xs)
    by true e tail = ap (λ b. filter p (cond b (x ∷ filter q xs) (filter q xs))) e ∙ ap (λ l. cond (p x) (x ∷ l) l) tail ∙ sym (ap (λ b. cond (b && p x) (x ∷ filter (λ y. q y && p y) xs) (filter (λ y. q y && p y) xs)) e)
    by false e tail = ap (λ b. filter p (cond b (x ∷ filter q xs) (filter q xs))) e ∙ tail ∙ sym (ap (λ b. cond (b && p x) (x ∷ filter (λ y. q y && p y) xs) (filter (λ y. q y && p y) xs)) e)

same_null : (a b : Cell) → same_cell a b ≡ true → is_null a ≡ is_null b
same_null Null Null e = refl
same_null (Whole m) (Whole n) e = refl
same_null (Text s) (Text t) e = refl
same_null (Truth x) (Truth y) e = refl
same_null a b e = search rules

-- keys match if they are the same and the right one has no null
match-without_nulls : (a b : List Cell) → (not (list_any is_null b) && same_key a b) ≡ keys_match false a b
match-without_nulls [] [] = refl
match-without_nulls [] (y ∷ ys) = by (not (list_any is_null (y ∷ ys)))
  where
    by : (c : Bool) → (c && false) ≡ false
    by true = refl
    by false = refl
match-without_nulls (x ∷ xs) [] = refl
match-without_nulls (x ∷ xs) (y ∷ ys) = by (same_cell x y) refl (is_null x) refl (match-without_nulls xs ys)
  where
    no : (c : Bool) → (c && false) ≡ false
    no true = refl
    no false = refl

    mid : (c n : Bool) → (not (list_any is_null ys) && same_key xs ys) ≡ keys_match false xs ys → (not (n || list_any is_null ys) && (c && same_key xs ys)) ≡ ((not n && c) && keys_match false xs ys)
    mid true true tail = refl
    mid true false tail = tail
    mid false true tail = refl
    mid false false tail = no (not (list_any is_null ys))

    nulls : (c n : Bool) → same_cell x y ≡ c → is_null x ≡ n → (not (is_null y || list_any is_null ys) && (same_cell x y && same_key xs ys)) ≡ (not (n || list_any is_null ys) && (c && same_key xs ys))
    nulls true n e f = ap (λ b. not (b || list_any is_null ys) && (same_cell x y && same_key xs ys)) (sym (same_null x y e) ∙ f) ∙ ap (λ b. not (n || list_any is_null ys) && (b && same_key xs ys)) e
    nulls false n e f = ap (λ b. not (is_null y || list_any is_null ys) && (b && same_key xs ys)) e ∙ no (not (is_null y || list_any is_null ys)) ∙ sym (no (not (n || list_any is_null ys)))

    by : (c : Bool) → same_cell x y ≡ c → (n : Bool) → is_null x ≡ n → (not (list_any is_null ys) && same_key xs ys) ≡ keys_match false xs ys →
        (not (is_null y || list_any is_null ys) && (same_cell x y && same_key xs ys)) ≡ ((not (is_null x) && same_cell x y) && keys_match false xs ys)
    by c e n f tail = nulls c n e f ∙ mid c n tail ∙ sym (ap (λ b. (not b && same_cell x y) && keys_match false xs ys) f ∙ ap (λ b. (not n && b) && keys_match false xs ys) e)

-- keys match if they are the same and the right one can match any
match-split : (nulls_equal : Bool) (a b : List Cell) → (can_match nulls_equal b && same_key a b) ≡ keys_match nulls_equal a b
match-split true a b = refl
match-split false a b = match-without_nulls a b

module _ {R : Type 0} (key : R → List Cell) (seen : List (List Cell)) (groups : List (List R)) (rows : List R) (h : IsGrouping key seen groups rows) (k : List Cell) where
  get_or-map : {X Y : Type 0} (f : X → Y) (xs : List X) (i : ℕ) (d : X) (e : Y) → i < length xs → get_or (map f xs) i e ≡ f (get_or xs i d)
  get_or-map f [] i d e l = absurd (omega (arith, l))
  get_or-map f (x ∷ xs) zero d e l = refl
  get_or-map f (x ∷ xs) (suc i) d e l = get_or-map f xs i d e (omega (arith, l))

  -- the group at the place of a key is the key's
  pub group-found : (i : ℕ) (d : List R) → position (same_key k) seen ≡ Some i → get_or groups i d ≡ rows_with same_key key rows k
  group-found i d e =
      let at = position-Some (same_key k) seen i [] e in
      let s = get_or seen i [] in
      ap (λ gs. get_or gs i d) (h.groups_are ∙ states-rows key rows ∙ ap (map (rows_with same_key key rows)) (sym h.seen_is))
      ∙ get_or-map (rows_with same_key key rows) seen i [] d at.0
      ∙ (λ j. filter (λ r. sym (same_key_laws.congr k s (key r) at.1) j) rows)

  pub group-absent : list_any (same_key k) seen ≡ false → rows_with same_key key rows k ≡ []
  group-absent e = none_with same_key same_key_laws key k rows (sym (any-first_seen same_key same_key_laws k (map key rows)) ∙ ap (list_any (same_key k)) (sym h.seen_is) ∙ e)

pub index-matches : (nulls_equal : Bool) (key : ℕ → List Cell) (count : ℕ) (k : List Cell) → rows_with same_key key (places_with_key nulls_equal key count) k ≡ matches_of nulls_equal key count k
index-matches nulls_equal key count k = filter-filter (λ n. same_key k (key n)) (λ n. can_match nulls_equal (key n)) (numbers count) ∙ (λ j. filter (λ n. match-split nulls_equal k (key n) j) (numbers count))

-- one more row in an index: its place goes to its key's, if the key can match
pub index-more : (nulls_equal : Bool) (key : ℕ → List Cell) (i : ℕ) (k : List Cell) (seen seen' : List (List Cell)) (groups groups' : List (List ℕ)) → k ≡ key i → IsIndex nulls_equal key i seen groups →
    ((can_match nulls_equal k ≡ true) × (seen' ≡ insert_key same_key seen k) × (groups' ≡ replaced (position_or_len (same_key k) seen) (with_row (get_or groups (position_or_len (same_key k) seen) []) i) groups))
    ⊎ ((can_match nulls_equal k ≡ false) × (seen' ≡ seen) × (groups' ≡ groups)) → IsIndex nulls_equal key (i + 1) seen' groups'
index-more nulls_equal key i k seen seen' groups groups' e h (inl (z, s, g)) =
    subst (IsGrouping key seen' groups') (sym (places-more nulls_equal key i ∙ ap (λ b. places_with_key nulls_equal key i ++ cond b (i ∷ []) []) (ap (can_match nulls_equal) (sym e) ∙ z)))
    (grouping-push key seen seen' groups groups' (places_with_key nulls_equal key i) i h (s ∙ ap (insert_key same_key seen) e)
    (g ∙ ap (λ q. replaced (position_or_len (same_key q) seen) (with_row (get_or groups (position_or_len (same_key q) seen) []) i) groups) e))
index-more nulls_equal key i k seen seen' groups groups' e h (inr (z, s, g)) =
    subst (IsGrouping key seen' groups') (sym (places-more nulls_equal key i ∙ ap (λ b. places_with_key nulls_equal key i ++ cond b (i ∷ []) []) (ap (can_match nulls_equal) (sym e) ∙ z) ∙ append-nil (places_with_key nulls_equal key i)))
    (record { seen_is = s ∙ h.seen_is; groups_are = g ∙ h.groups_are })

module _ (output : ℕ → List Pair) (room l count w : ℕ) (low : l < count) (at : w ≡ length (output l)) where
  here : range_with_len l (count - l) ≡ l ∷ range_with_len (l + 1) (count - (l + 1))
  here = ap (range_with_len l) (let e : count - l ≡ suc (count - (l + 1)) = omega arith in e)

  pub pairs-step : w ≤ room → let rest = pairs_within output (room - w) (range_with_len (l + 1) (count - (l + 1))) in
      pairs_within output room (range_with_len l (count - l)) ≡ (output l ++ rest.0, rest.1)
  pairs-step fits =
      let more = λ (v : ℕ). pairs_within output (room - v) (range_with_len (l + 1) (count - (l + 1))) in
      ap (pairs_within output room) here
      ∙ ap (λ b. if b then (output l ++ (more (length (output l))).0, (more (length (output l))).1) else ([], Some l)) (le-leb (length (output l)) room (subst (λ v. v ≤ room) at fits))
      ∙ ap (λ v. (output l ++ (more v).0, (more v).1)) (sym at)

  pub pairs-stop : room < w → pairs_within output room (range_with_len l (count - l)) ≡ ([], Some l)
  pairs-stop past =
      let more = pairs_within output (room - length (output l)) (range_with_len (l + 1) (count - (l + 1))) in
      ap (pairs_within output room) here
      ∙ ap (λ b. if b then (output l ++ more.0, more.1) else ([], Some l)) (lt-leb (length (output l)) room (subst (λ v. room < v) at past))
