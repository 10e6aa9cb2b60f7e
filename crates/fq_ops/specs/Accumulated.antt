-- The running values of an aggregate, one for each group.
use Rattle.std.specs.Prelude.{◌≡◌, ℕ, ◌+◌, ◌-◌, ◌<◌, List, [], ◌∷◌, ◌++◌, All, fold, length, map, replicate, slice_index_or, slice_set, zip, nat_lt, Option, Some, None, if◌then◌else◌}
use Rattle.std.specs.List.{position_or_len}
use Rattle.indexmap.specs.IndexSet.{insert_key}
use Rattle.fq_column.specs.declared.cells.Cell.{Cell}
use Rattle.fq_column.specs.declared.cells.Kind.{Kind}
use Rattle.fq_column.specs.declared.cells.Kind.TheVariants.{Whole}
use Rattle.fq_column.specs.Frame.{Row, column_at, value_at}
use Rattle.fq_column.specs.Lists.{first_missing, numbers}
use Rattle.fq_ops.specs.declared.aggregates.Function.{Function}
use Rattle.fq_ops.specs.declared.aggregates.Function.TheVariants as function
use Rattle.fq_ops.specs.Group.{same_key}
use Rattle.fq_ops.specs.Picks.{Pick}
use Rattle.fq_ops.specs.Running.{AggregateState, Len, IsBoundedBy, finished, of_kind, outcome, start_of, stepped}

-- an aggregate function, the place of its column, and its running value in each group
pub record Accumulated : Type 0 where
  pub function : Function
  pub column : ℕ
  pub states : List AggregateState

-- the numbers of keys in the order of first appearance, where these were seen before
abbrev pub numbers_along : List (List Cell) → List (List Cell) → List ℕ
numbers_along seen [] = []
numbers_along seen (k ∷ keys) = position_or_len (same_key k) seen ∷ numbers_along (insert_key same_key seen k) keys

-- a list, made this long by copies of an item
abbrev pub padded : {X : Type 0} → ℕ → X → List X → List X
padded count x xs = xs ++ replicate (count - length xs) x

-- the states after a step of the one with this number
abbrev pub stepped_at : List AggregateState → ℕ × Cell → List AggregateState
stepped_at states p = slice_set states p.0 (stepped (slice_index_or states p.0 (Len 0)) p.1)

-- the states after the steps of rows, each with the number of its group
abbrev pub stepped_along : List AggregateState → List ℕ → List Cell → List AggregateState
stepped_along states numbers cells = fold stepped_at states (zip numbers cells)

-- the running values of a function after cells, in so many groups
abbrev pub grown_and_stepped : ℕ → List ℕ → List Cell → Function → List AggregateState → List AggregateState
grown_and_stepped groups numbers cells f states = stepped_along (padded groups (start_of f) states) numbers cells

-- the running values after rows, in so many groups
abbrev pub accumulated : ℕ → List ℕ → List Row → Accumulated → Accumulated
accumulated groups numbers rows a = record a { states = grown_and_stepped groups numbers (column_at a.column rows) a.function a.states }

-- running values that are within the bounds of n rows are, after so many more, within those of n and so many
pub record HaveTaken (count : ℕ) (old new : List AggregateState) : Type 0 where
  pub bounded : (n : ℕ) → All (IsBoundedBy n) old → All (IsBoundedBy (n + count)) new

-- the accumulator reads a column among so many, and its values, of at most n rows, are those of so many groups
pub record IsAccumulator (width groups n : ℕ) (a : Accumulated) : Type 0 where
  pub column : a.column < width
  pub beside : length a.states ≡ groups
  pub bounded : All (IsBoundedBy n) a.states

-- the aggregate of a group, or none if a sum does not fit 64 bits
abbrev pub value_in : ℕ → Accumulated → Option Cell
value_in group a = finished (slice_index_or a.states group (Len 0))

-- a column of the groups' aggregates
abbrev pub running_pick : Kind → List AggregateState → Pick ℕ
running_pick kind states = (kind, λ group. of_kind kind (outcome (slice_index_or states group (Len 0))))

abbrev pub value_pick : Kind → Accumulated → Pick ℕ
value_pick kind a = running_pick kind a.states

-- a column of the keys' cells at a place
abbrev pub key_pick : Kind → ℕ → List (List Cell) → Pick ℕ
key_pick kind place keys = (kind, λ group. of_kind kind (value_at place (slice_index_or keys group [])))

-- what stands in column i of a group: of the key at so many places, then of the aggregates
abbrev pub group_value : ℕ → List (List Cell) → List Accumulated → ℕ → ℕ → Cell
group_value width keys accumulators i group =
    if nat_lt i width then value_at i (slice_index_or keys group [])
    else outcome (slice_index_or (slice_index_or accumulators (i - width) (record { function = function.Len; column = 0; states = [] })).states group (Len 0))

abbrev pub group_pick : ℕ → List (List Cell) → List Accumulated → List Kind → ℕ → Pick ℕ
group_pick width keys accumulators kinds i = (slice_index_or kinds i Whole, λ group. of_kind (slice_index_or kinds i Whole) (group_value width keys accumulators i group))

-- the first n columns of groups
abbrev pub group_picks : ℕ → List (List Cell) → List Accumulated → List Kind → ℕ → List (Pick ℕ)
group_picks width keys accumulators kinds n = map (group_pick width keys accumulators kinds) (numbers n)

-- the first aggregate of a group that does not fit 64 bits
abbrev pub out_of_range_in : List Accumulated → ℕ → Option ℕ
out_of_range_in accumulators group = first_missing (map (value_in group) accumulators)

-- the first answer that there is
abbrev pub first_found : {X Y : Type 0} → (X → Option Y) → List X → Option Y
first_found f [] = None
first_found f (x ∷ xs) = elim (f x) [ Some y ↦ Some y | None ↦ first_found f xs ]
