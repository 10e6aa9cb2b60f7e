-- The running values of groups after a batch are those of all rows.
use Rattle.std.proofs.Common.{◌≡◌, ℕ, zero, suc, ◌+◌, ◌-◌, ◌<◌, ◌≤◌, List, [], ◌∷◌, ◌++◌, drop, get_or, inl, inr, set, length, map, replicate, take, refl, subst, sym, ap, ◌∙◌, arith, append_assoc, append-nil}
use Rattle.std.specs.List.{position_or_len}
use Rattle.std.specs.Prelude.{All}
use Rattle.std.proofs.lemmas.Bool.{cases_lt}
use Rattle.std.proofs.lemmas.List.{length-append, length-take, length-drop, length-map, map-append}
use Rattle.std.proofs.lemmas.List.Folds.{fold-map}
use Rattle.indexmap.specs.IndexSet.{insert_all, insert_key}
use Rattle.fq_column.specs.declared.cells.Cell.{Cell}
use Rattle.fq_column.specs.Frame.{Fields, Name, Row, value_at}
use Rattle.fq_ops.specs.Accumulated.{Accumulated, IsAccumulator, accumulated, numbers_along, padded, stepped_along}
use Rattle.fq_ops.specs.Aggregate.{Output, first_seen}
use Rattle.fq_ops.specs.Grouped.{fresh, function_of, gathered, place_of}
use Rattle.fq_ops.specs.Group.{group_of, key_of, keys_of_rows, same_key}
use Rattle.fq_ops.specs.Grouping.{keys_seen, replaced, state_of, states_of}
use Rattle.fq_ops.specs.Running.{AggregateState, Len, IsBoundedBy, start_of, stepped}
use Rattle.fq_ops.proofs.AccumulatorLemmas.{insert-grows}
use Rattle.fq_ops.proofs.GroupLemmas.{first_seen-push, keys_seen-push, length-insert_key, position-within, same_key_laws, states-push}
use Rattle.fq_ops.proofs.RefusalLemmas.{map-map}

-- ---- keys

pub seen-append : (keys more : List (List Cell)) → first_seen same_key (keys ++ more) ≡ insert_all same_key (first_seen same_key keys) more
seen-append keys [] = ap (first_seen same_key) (append-nil keys)
seen-append keys (k ∷ more) =
    ap (first_seen same_key) (sym (append_assoc keys (k ∷ []) more))
    ∙ seen-append (keys ++ k ∷ []) more
    ∙ ap (λ ks. insert_all same_key ks more) (first_seen-push same_key same_key_laws keys k)

all-grow : (seen more : List (List Cell)) → length seen ≤ length (insert_all same_key seen more)
all-grow seen [] = omega arith
all-grow seen (k ∷ more) = omega (arith, insert-grows seen k, all-grow (insert_key same_key seen k) more)

-- ---- one row more, among states that were made long enough before

length-replaced : {X : Type 0} (i : ℕ) (y : X) (xs : List X) → i ≤ length xs → length (replaced i y xs) ≡ i + suc (length xs - suc i)
length-replaced i y xs h =
    length-append (take i xs) (y ∷ drop (suc i) xs) ∙ omega (arith, h, length-take i xs, length-drop (suc i) xs)

module _ {X : Type 0} (f : X → X) (d x : X) where
  put-old : (xs : List X) (m i : ℕ) → i < length xs → set (xs ++ replicate m x) i (f (get_or (xs ++ replicate m x) i d)) ≡ replaced i (f (get_or xs i x)) xs ++ replicate m x
  put-old [] m i low = absurd (omega (arith, low))
  put-old (y ∷ xs) m zero low = refl
  put-old (y ∷ xs) m (suc i) low = ap (λ l. y ∷ l) (put-old xs m i (omega (arith, low)))

  put-new : (xs : List X) (m : ℕ) → set (xs ++ replicate (suc m) x) (length xs) (f (get_or (xs ++ replicate (suc m) x) (length xs) d)) ≡ replaced (length xs) (f (get_or xs (length xs) x)) xs ++ replicate m x
  put-new [] m = refl
  put-new (y ∷ xs) m = ap (λ l. y ∷ l) (put-new xs m)

  pub put-padded : (xs : List X) (count i : ℕ) → i ≤ length xs → (i ≡ length xs → length xs < count) →
      set (padded count x xs) i (f (get_or (padded count x xs) i d)) ≡ padded count x (replaced i (f (get_or xs i x)) xs)
  put-padded xs count i h room = elim (cases_lt i (length xs)) [
    | inl l ↦ put-old xs (count - length xs) i l
        ∙ ap (λ n. replaced i (f (get_or xs i x)) xs ++ replicate n x) (let e : count - length xs ≡ count - length (replaced i (f (get_or xs i x)) xs) = omega (arith, l, length-replaced i (f (get_or xs i x)) xs h) in e)
    | inr g ↦
        let at : i ≡ length xs = omega (arith, g, h) in
        let more = room at in
        ap (λ n. set (xs ++ replicate n x) i (f (get_or (xs ++ replicate n x) i d))) (let e : count - length xs ≡ suc (count - suc (length xs)) = omega (arith, more) in e)
        ∙ ap (λ j. set (xs ++ replicate (suc (count - suc (length xs))) x) j (f (get_or (xs ++ replicate (suc (count - suc (length xs))) x) j d))) at
        ∙ put-new xs (count - suc (length xs))
        ∙ ap (λ j. replaced j (f (get_or xs j x)) xs ++ replicate (count - suc (length xs)) x) (sym at)
        ∙ ap (λ n. replaced i (f (get_or xs i x)) xs ++ replicate n x) (let e : count - suc (length xs) ≡ count - length (replaced i (f (get_or xs i x)) xs) = omega (arith, at, length-replaced i (f (get_or xs i x)) xs h) in e)
  ]

-- ---- the states of all rows

module _ {R : Type 0} (key : R → List Cell) (cell : R → Cell) (init : AggregateState) where
  abbrev states : List R → List AggregateState
  states rows = states_of same_key key (λ s r. stepped s (cell r)) init rows

  abbrev keys : List R → List (List Cell)
  keys rows = keys_seen same_key key rows

  length-states : (rows : List R) → length (states rows) ≡ length (keys rows)
  length-states rows = length-map (keys rows) (state_of same_key key (λ s r. stepped s (cell r)) init rows)

  keys-append : (rows more : List R) → keys (rows ++ more) ≡ insert_all same_key (keys rows) (map key more)
  keys-append rows more = ap (first_seen same_key) (map-append key rows more) ∙ seen-append (map key rows) (map key more)

  pub states-along : (rows more : List R) (count : ℕ) → count ≡ length (keys (rows ++ more)) →
      states (rows ++ more) ≡ stepped_along (padded count init (states rows)) (numbers_along (keys rows) (map key more)) (map cell more)
  states-along rows [] count e =
      let all : count ≡ length (states rows) = e ∙ ap (λ rs. length (keys rs)) (append-nil rows) ∙ sym (length-states rows) in
      ap states (append-nil rows) ∙ sym (append-nil (states rows))
      ∙ ap (λ n. states rows ++ replicate n init) (let z : 0 ≡ count - length (states rows) = omega (arith, all) in z)
  states-along rows (r ∷ more) count e =
      let xs = states rows in
      let seen = keys rows in
      let i = position_or_len (same_key (key r)) seen in
      let later = rows ++ r ∷ [] in
      let joined : later ++ more ≡ rows ++ r ∷ more = append_assoc rows (r ∷ []) more in
      let one : keys later ≡ insert_key same_key seen (key r) = keys_seen-push same_key same_key_laws key rows r in
      let grown : length (keys later) ≤ count = omega (arith, all-grow (keys later) (map key more), ap length (keys-append later more), ap (λ rs. length (keys rs)) joined, e) in
      let size = length-states rows in
      let room : i ≡ length xs → length xs < count = λ at. omega (arith, grown, ap length one, (length-insert_key same_key (key r) seen).0 (at ∙ size), size) in
      ap states (sym joined)
      ∙ states-along later more count (e ∙ ap (λ rs. length (keys rs)) (sym joined))
      ∙ ap (λ ks. stepped_along (padded count init (states later)) (numbers_along ks (map key more)) (map cell more)) one
      ∙ ap (λ ss. stepped_along (padded count init ss) (numbers_along (insert_key same_key seen (key r)) (map key more)) (map cell more)) (states-push same_key same_key_laws key (λ s q. stepped s (cell q)) init rows r)
      ∙ ap (λ ss. stepped_along ss (numbers_along (insert_key same_key seen (key r)) (map key more)) (map cell more))
      (sym (put-padded (λ s. stepped s (cell r)) (Len 0) init xs count i (omega (arith, size, position-within (same_key (key r)) seen)) room))

-- ---- what a grouper keeps

module _ (fields : Fields) (names : List Name) where
  states-gathered : (o : Output) (rows : List Row) → (gathered fields names rows o).states ≡ states (key_of fields names) (value_at (place_of fields o.1)) (start_of (function_of o.1)) rows
  states-gathered o rows = λ i. map (λ k. fold-map stepped (value_at (place_of fields o.1)) (start_of (function_of o.1)) (group_of fields names rows k) i) (keys_of_rows fields names rows)

  pub gathered-more : (rows more : List Row) (o : Output) →
      accumulated (length (keys_of_rows fields names (rows ++ more))) (numbers_along (keys_of_rows fields names rows) (map (key_of fields names) more)) more (gathered fields names rows o)
      ≡ gathered fields names (rows ++ more) o
  gathered-more rows more o =
      let count = length (keys_of_rows fields names (rows ++ more)) in
      let numbers = numbers_along (keys_of_rows fields names rows) (map (key_of fields names) more) in
      let start = start_of (function_of o.1) in
      let cell = value_at (place_of fields o.1) in
      let same = ap (λ ss. stepped_along (padded count start ss) numbers (map cell more)) (states-gathered o rows)
      ∙ sym (states-along (key_of fields names) cell start rows more count refl) ∙ sym (states-gathered o (rows ++ more)) in
      λ i. record { function = function_of o.1; column = place_of fields o.1; states = same i }

  pub keys-more_rows : (rows more : List Row) → insert_all same_key (keys_of_rows fields names rows) (map (key_of fields names) more) ≡ keys_of_rows fields names (rows ++ more)
  keys-more_rows rows more = sym (ap (first_seen same_key) (map-append (key_of fields names) rows more) ∙ seen-append (map (key_of fields names) rows) (map (key_of fields names) more))

  pub all-gathered : (outputs : List Output) (rows more : List Row) (groups : ℕ) (numbers : List ℕ) → groups ≡ length (keys_of_rows fields names (rows ++ more)) →
      numbers ≡ numbers_along (keys_of_rows fields names rows) (map (key_of fields names) more) →
      map (accumulated groups numbers more) (map (gathered fields names rows) outputs) ≡ map (gathered fields names (rows ++ more)) outputs
  all-gathered outputs rows more groups numbers g n =
      (λ i. map (accumulated (g i) (n i) more) (map (gathered fields names rows) outputs))
      ∙ map-map (accumulated (length (keys_of_rows fields names (rows ++ more))) (numbers_along (keys_of_rows fields names rows) (map (key_of fields names) more)) more) (gathered fields names rows) outputs
      ∙ (λ i. map (λ o. gathered-more rows more o i) outputs)

-- ---- no row yet

pub all-fresh : (width : ℕ) (accs : List Accumulated) → All (λ (a : Accumulated). a.column < width) accs → All (λ (a : Accumulated). a.states ≡ []) accs → All (IsAccumulator width 0 0) accs
all-fresh width accs columns none k d low = record {
  column = columns k d low;
  beside = ap length (none k d low);
  bounded = subst (All (IsBoundedBy 0)) (sym (none k d low)) (λ j e b. absurd (omega (arith, b)));
}

pub fresh-empty : (fields : Fields) (outputs : List Output) → All (λ (a : Accumulated). a.states ≡ []) (map (fresh fields) outputs)
fresh-empty fields [] k d low = absurd (omega (arith, low))
fresh-empty fields (o ∷ outputs) zero d low = refl
fresh-empty fields (o ∷ outputs) (suc k) d low = fresh-empty fields outputs k d (omega (arith, low))
