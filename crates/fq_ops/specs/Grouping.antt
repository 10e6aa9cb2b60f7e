-- A grouping as two lists: the keys, each where it first appears, and beside them a state for each key.
use Rattle.std.specs.Prelude.{◌≡◌, ℕ, suc, Bool, List, [], ◌∷◌, ◌++◌, map, filter, fold, take, drop}
use Rattle.fq_column.specs.Frame.{Row, value_at}
use Rattle.fq_column.specs.declared.cells.Cell.{Cell}
use Rattle.fq_ops.specs.Group.{same_key}
use Rattle.fq_ops.specs.Aggregate.{first_seen}

-- xs with x at place i, or last if i is its length
abbrev pub replaced : {X : Type 0} → ℕ → X → List X → List X
replaced i x xs = take i xs ++ x ∷ drop (suc i) xs

module _ {K R : Type 0} (eq : K → K → Bool) (key : R → K) where
  abbrev pub keys_seen : List R → List K
  keys_seen rows = first_seen eq (map key rows)

  -- the rows of a key
  abbrev pub rows_with : List R → K → List R
  rows_with rows k = filter (λ r. eq k (key r)) rows

  module _ {S : Type 0} (step : S → R → S) (init : S) where
    -- the state of a key: the steps along its rows
    abbrev pub state_of : List R → K → S
    state_of rows k = fold step init (rows_with rows k)

    abbrev pub states_of : List R → List S
    states_of rows = map (state_of rows) (keys_seen rows)

-- the cells at places of a row
abbrev pub key_at : List ℕ → Row → List Cell
key_at places row = map (λ p. value_at p row) places

abbrev pub with_row : {R : Type 0} → List R → R → List R
with_row rows row = rows ++ row ∷ []

-- these are the keys of the rows and, beside them, the rows of each key
pub record IsGrouping {R : Type 0} (key : R → List Cell) (seen : List (List Cell)) (groups : List (List R)) (rows : List R) : Type 0 where
  pub seen_is : seen ≡ keys_seen same_key key rows
  pub groups_are : groups ≡ states_of same_key key with_row [] rows
