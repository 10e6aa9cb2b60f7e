-- The places of the rows that a join puts together.
use Rattle.std.specs.Prelude.{◌≡◌, ℕ, ◌-◌, ◌≤◌, Bool, true, not, ◌||◌, List, [], ◌∷◌, ◌++◌, map, filter, length, nat_le, replicate, slice_index_or, Option, Some, None, if◌then◌else◌}
use Rattle.std.specs.List.{list_any}
use Rattle.fq_column.specs.declared.cells.Cell.{Cell}
use Rattle.fq_column.specs.Cell.{is_null}
use Rattle.fq_column.specs.Lists.{keep, numbers}
use Rattle.std.specs.Option.{option_map_or}
use Rattle.fq_column.specs.declared.cells.Cell.TheVariants.{Null}
use Rattle.fq_column.specs.Frame.{Fields, Frame, Name, Row, column_at, has_name, value_at, value_named}
use Rattle.fq_ops.specs.Picks.{Pick, picks_from}
use Rattle.fq_ops.specs.Join.{keys_match, right_values, taken, without_keys}
use Rattle.fq_ops.specs.declared.joins.How.{How}
use Rattle.fq_ops.specs.declared.joins.How.TheVariants.{Inner, Left, Semi, Anti}
use Rattle.fq_ops.specs.Grouping.{IsGrouping}

-- a left place, and a right one if there is a match
abbrev pub Pair : Type 0
Pair = ℕ × Option ℕ

-- whether a key can match any
abbrev pub can_match : Bool → List Cell → Bool
can_match nulls_equal key = nulls_equal || not (list_any is_null key)

-- the places of the rows whose key can match
abbrev pub places_with_key : Bool → (ℕ → List Cell) → ℕ → List ℕ
places_with_key nulls_equal key count = filter (λ n. can_match nulls_equal (key n)) (numbers count)

-- the places of the right rows whose key matches, in order
abbrev pub matches_of : Bool → (ℕ → List Cell) → ℕ → List Cell → List ℕ
matches_of nulls_equal key count k = filter (λ n. keys_match nulls_equal k (key n)) (numbers count)

-- the keys of the rows that can match, and beside them their places
abbrev pub IsIndex : Bool → (ℕ → List Cell) → ℕ → List (List Cell) → List (List ℕ) → Type 0
IsIndex nulls_equal key count seen groups = IsGrouping key seen groups (places_with_key nulls_equal key count)

-- the pairs of a left place with these matches
abbrev pub pairs_of : How → ℕ → List ℕ → List Pair
pairs_of Inner l [] = []
pairs_of Left l [] = (l, None) ∷ []
pairs_of Semi l [] = []
pairs_of Anti l [] = (l, None) ∷ []
pairs_of Inner l (m ∷ ms) = map (λ r. (l, Some r)) (m ∷ ms)
pairs_of Left l (m ∷ ms) = map (λ r. (l, Some r)) (m ∷ ms)
pairs_of Semi l (m ∷ ms) = (l, None) ∷ []
pairs_of Anti l (m ∷ ms) = []

-- what each left place gives, in turn, until one whose pairs would pass `room` in all; it is the fault
abbrev pub pairs_within : (ℕ → List Pair) → ℕ → List ℕ → List Pair × Option ℕ
pairs_within output room [] = ([], None)
pairs_within output room (l ∷ ls) =
    if nat_le (length (output l)) room
    then (output l ++ (pairs_within output (room - length (output l)) ls).0, (pairs_within output (room - length (output l)) ls).1)
    else ([], Some l)

-- the row of a pair
abbrev pub pair_row : How → Fields → Fields → List Name → List Row → List Row → Pair → Row
pair_row how left right on rows ls p =
    slice_index_or ls p.0 [] ++ option_map_or (λ m. right_values left (taken how right) on (slice_index_or rows m [])) p.1 (replicate (length (without_keys on (taken how right))) Null)

-- the keys of rows by place
abbrev pub named_key : Fields → List Name → List Row → ℕ → List Cell
named_key fields on rows n = map (λ m. value_named fields m (slice_index_or rows n [])) on

-- marks of rows: true for those at these places, which rise
pub record AreMarks (marks : List Bool) (places : List ℕ) : Type 0 where
  pub kept : (rows : List Row) → length marks ≤ length rows → keep marks rows ≡ map (λ p. slice_index_or rows p []) places

-- the value of a pair in a left column, and in a right one
abbrev pub left_value : List Row → ℕ → Pair → Cell
left_value ls i p = value_at p.0 (column_at i ls)

abbrev pub right_value : List Row → ℕ → Pair → Cell
right_value rows i p = option_map_or (λ m. value_at m (column_at i rows)) p.1 Null

-- the columns of a join by what each takes of a pair: the left ones, then the right ones that are taken and are not keys
abbrev pub join_picks : How → Frame → Frame → List Name → List (Pick Pair)
join_picks how left right on = picks_from (λ _. true) (left_value left.rows) 0 left.fields ++ picks_from (λ n. not (has_name on n)) (right_value right.rows) 0 (taken how right.fields)
