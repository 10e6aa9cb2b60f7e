-- A running value of an aggregate: what one more cell makes of it, and what it means at the end.
use Rattle.std.specs.Prelude.{ℕ, ◌+◌, ◌≤◌, [], ℤ, pos, ◌+ℤ◌, List, length, map, Option, Some, None, unwrap_or, if◌then◌else◌}
use Rattle.std.specs.Ordering.{is_lt, is_gt}
use Rattle.indexmap.specs.IndexSet.{insert_key}
use Rattle.fq_column.specs.declared.cells.Kind.{Kind}
use Rattle.fq_column.specs.declared.cells.Cell.{Cell}
use Rattle.fq_column.specs.declared.cells.Cell.TheVariants.{Null, Whole, Text, Truth}
use Rattle.fq_column.specs.Cell.{is_null, cell_cmp, fitted, has_kind, same_cell}
use Rattle.fq_ops.specs.declared.aggregates.Function.{Function}
use Rattle.fq_ops.specs.declared.aggregates.Function.TheVariants as function
use Rattle.fq_ops.specs.declared.accumulators.States.{States}
use Rattle.fq_ops.specs.declared.accumulators.States.TheVariants.{Sum as Sums, Min as Leasts, Max as Greatests, Count as Counts, Len as Lens, First as Firsts, Last as Lasts, NUnique as NUniques}
use Rattle.fq_ops.specs.Aggregate.{count}
use Rattle.fq_ops.specs.Sums.{IsWithin}

-- the value of an aggregate over the cells of a group so far: a sum, the least and the greatest that is not null, how many
-- are not null, how many there are, the first, the last, and the distinct ones
pub data AggregateState : Type 0 where
  Sum : ℤ → AggregateState
  Min : Cell → AggregateState
  Max : Cell → AggregateState
  Count : ℕ → AggregateState
  Len : ℕ → AggregateState
  First : Option Cell → AggregateState
  Last : Cell → AggregateState
  NUnique : List Cell → AggregateState

-- the whole number that a cell adds to a sum
abbrev pub addend : Cell → ℤ
addend Null = pos 0
addend (Whole n) = n
addend (Text t) = pos 0
addend (Truth b) = pos 0

-- the lesser of two cells, null if both are, and the greater
abbrev pub lesser : Cell → Cell → Cell
lesser best cell = if is_null cell then best else if is_null best then cell else if is_lt (cell_cmp cell best) then cell else best

abbrev pub greater : Cell → Cell → Cell
greater best cell = if is_null cell then best else if is_null best then cell else if is_gt (cell_cmp cell best) then cell else best

-- one more cell
abbrev pub stepped : AggregateState → Cell → AggregateState
stepped (Sum total) cell = Sum (total +ℤ addend cell)
stepped (Min best) cell = Min (lesser best cell)
stepped (Max best) cell = Max (greater best cell)
stepped (Count n) cell = Count (if is_null cell then n else n + 1)
stepped (Len n) cell = Len (n + 1)
stepped (First None) cell = First (Some cell)
stepped (First (Some first)) cell = First (Some first)
stepped (Last last) cell = Last cell
stepped (NUnique cells) cell = NUnique (insert_key same_cell cells cell)

-- no cell yet
abbrev pub start_of : Function → AggregateState
start_of function.Sum = Sum (pos 0)
start_of function.Min = Min Null
start_of function.Max = Max Null
start_of function.Count = Count 0
start_of function.Len = Len 0
start_of function.First = First None
start_of function.Last = Last Null
start_of function.NUnique = NUnique []

-- the aggregate, or none if a sum does not fit 64 bits
abbrev pub finished : AggregateState → Option Cell
finished (Sum total) = fitted total
finished (Min best) = Some best
finished (Max best) = Some best
finished (Count n) = Some (Whole (pos n))
finished (Len n) = Some (Whole (pos n))
finished (First first) = Some (unwrap_or first Null)
finished (Last last) = Some last
finished (NUnique cells) = Some (count cells)

-- the aggregate, or null
abbrev pub outcome : AggregateState → Cell
outcome r = unwrap_or (finished r) Null

-- the cell, or null if it is of another kind
abbrev pub of_kind : Kind → Cell → Cell
of_kind k c = if has_kind k c then c else Null

-- how far a running value of n rows can be
abbrev pub IsBoundedBy : ℕ → AggregateState → Type 0
IsBoundedBy n (Sum total) = IsWithin n total
IsBoundedBy n (Min best) = Unit {0}
IsBoundedBy n (Max best) = Unit {0}
IsBoundedBy n (Count k) = k ≤ n
IsBoundedBy n (Len k) = k ≤ n
IsBoundedBy n (First first) = Unit {0}
IsBoundedBy n (Last last) = Unit {0}
IsBoundedBy n (NUnique cells) = length cells ≤ n

-- the function of running values that are kept by their type, and what they say
abbrev pub function_in : States → Function
function_in (Sums xs) = function.Sum
function_in (Leasts xs) = function.Min
function_in (Greatests xs) = function.Max
function_in (Counts xs) = function.Count
function_in (Lens xs) = function.Len
function_in (Firsts xs) = function.First
function_in (Lasts xs) = function.Last
function_in (NUniques xs) = function.NUnique

abbrev pub running_in : States → List AggregateState
running_in (Sums xs) = map (λ s. Sum s.0) xs.items
running_in (Leasts xs) = map (λ s. Min s.0) xs.items
running_in (Greatests xs) = map (λ s. Max s.0) xs.items
running_in (Counts xs) = map (λ s. Count s.0) xs.items
running_in (Lens xs) = map (λ s. Len s.0) xs.items
running_in (Firsts xs) = map (λ s. First s.0) xs.items
running_in (Lasts xs) = map (λ s. Last s.0) xs.items
running_in (NUniques xs) = map (λ s. NUnique s.0.keys) xs.items
