-- What a grouper has taken and no longer holds.
use Rattle.std.specs.Prelude.{◌≡◌, ℕ, ◌+◌, ◌≤◌, ◌<◌, All, Bool, true, false, IsOk, List, [], length, map, unwrap_or, fold, Result, Err}
use Rattle.std.specs.List.{AllPass}
use Rattle.fq_column.specs.declared.cells.Cell.{Cell}
use Rattle.fq_column.specs.Frame.{Fields, Name, Row, column_at, names_of, position_of, row_fits}
use Rattle.fq_ops.specs.declared.groups.TheConstants.{MAX_GROUPED_ROWS}
use Rattle.fq_ops.specs.declared.groups.GroupFault.{GroupFault}
use Rattle.fq_ops.specs.declared.groups.GroupFault.TheVariants.{SumRange, Memory}
use Rattle.fq_ops.specs.declared.aggregates.Function.{Function}
use Rattle.fq_ops.specs.declared.aggregates.Function.TheVariants as function
use Rattle.fq_ops.specs.Accumulated.{Accumulated, IsAccumulator}
use Rattle.fq_ops.specs.Aggregate.{Aggregate, Output, len, over}
use Rattle.fq_ops.specs.Fields.{AreAt}
use Rattle.fq_ops.specs.Group.{group_of, group_schema, grouped_fields, keys_of_rows}
use Rattle.fq_ops.specs.KeySets.{IsWholeAt}
use Rattle.fq_ops.specs.Running.{AggregateState, start_of, stepped}

-- what contracts see of a grouper: the columns that it takes and those that it gives, how many rows it has taken, whether
-- it has failed, and beside these what it keeps
pub record Grouped : Type 0 where
  pub fields : Fields
  pub output : Fields
  pub taken : ℕ
  pub failed : Bool
  pub places : List ℕ
  pub seen : List (List Cell)
  pub is_whole : Bool
  pub accumulators : List Accumulated

-- the function of an aggregate
abbrev pub function_of : Aggregate → Function
function_of len = function.Len
function_of (over f n) = f

-- the place of a name, or 0
abbrev pub place_named : Fields → Name → ℕ
place_named fields name = unwrap_or (position_of name (names_of fields)) 0

-- the place of the column of an aggregate, or 0 if it reads none
abbrev pub place_of : Fields → Aggregate → ℕ
place_of fields len = 0
place_of fields (over f n) = place_named fields n

-- an aggregate with no group yet
abbrev pub fresh : Fields → Output → Accumulated
fresh fields o = record { function = function_of o.1; column = place_of fields o.1; states = [] }

-- the running value of an aggregate over rows
abbrev pub running_of : Fields → Aggregate → List Row → AggregateState
running_of fields a rows = fold stepped (start_of (function_of a)) (column_at (place_of fields a) rows)

-- an aggregate of rows in groups: its running value over the rows of each key
abbrev pub gathered : Fields → List Name → List Row → Output → Accumulated
gathered fields keys rows o = record {
  function = function_of o.1;
  column = place_of fields o.1;
  states = map (λ key. running_of fields o.1 (group_of fields keys rows key)) (keys_of_rows fields keys rows);
}

-- the grouper, which was made for these keys and aggregates, has taken these rows
pub record HasTakenRows (g : Grouped) (keys : List Name) (outputs : List Output) (rows : List Row) : Type 0 where
  pub accepted : IsOk (group_schema g.fields keys outputs)
  pub output : g.output ≡ grouped_fields g.fields keys outputs
  pub taken : g.taken ≡ length rows
  pub fit : AllPass (row_fits g.fields) rows
  pub places : AreAt g.places keys g.fields
  pub seen : g.seen ≡ keys_of_rows g.fields keys rows
  pub accumulators : g.accumulators ≡ map (gathered g.fields keys rows) outputs

-- a grouper can take a batch, unless it has failed
pub record IsReady (g : Grouped) : Type 0 where
  pub some : 1 ≤ length g.places
  pub places : All (λ p. p < length g.fields) g.places
  pub whole : g.is_whole ≡ true → IsWholeAt g.fields g.places
  pub few : g.taken ≤ MAX_GROUPED_ROWS
  pub width : length g.output ≡ length g.places + length g.accumulators
  pub accumulators : g.failed ≡ false → All (IsAccumulator (length g.fields) (length g.seen) g.taken) g.accumulators

-- the fault is that of a grouping, or an allocation failed
abbrev pub IsFaultOf : Result (List Row) ℕ → GroupFault → Type 0
IsFaultOf expected (SumRange item) = expected ≡ Err item
IsFaultOf expected Memory = Unit {0}
