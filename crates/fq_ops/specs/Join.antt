-- Joins on named columns (Polars, `LazyFrame.join` with `maintain_order="left_right"`).
use Rattle.std.specs.Prelude.{ℕ, ◌-◌, ◌≤◌, IsTrue, Bool, false, not, ◌&&◌, ◌||◌, List, [], ◌∷◌, ◌++◌, map, filter, flat_map, length, zip, replicate, nat_le, nat_lt, ◌==◌, suc, Option, Result, Ok, Err, codes, if◌then◌else◌}
use Rattle.std.specs.List.{AllPass}
use lib.Pointwise.{pointwise}
use Rattle.fq_column.specs.declared.cells.Kind.{Kind}
use Rattle.fq_column.specs.declared.cells.Cell.{Cell}
use Rattle.fq_column.specs.declared.cells.Cell.TheVariants.{Null}
use Rattle.fq_column.specs.declared.faults.StepFault.{StepFault}
use Rattle.fq_column.specs.declared.faults.StepFault.TheVariants.{NoSuchColumn, WrongKind, DoubleName, TooMany, NoColumn}
use Rattle.fq_column.specs.declared.schemas.TheConstants.{MAX_COLUMNS}
use Rattle.fq_column.specs.Cell.{is_null, same_cell, same_kind}
use Rattle.fq_column.specs.Frame.{Fields, Name, Row, names_of, has_name, same_name, value_named}
use Rattle.fq_column.specs.Lists.{is_distinct}
use Rattle.fq_column.specs.Refusal.{refuse_if, unless_refused}
use Rattle.fq_column.specs.Schema.{kind_named}
use Rattle.fq_column.specs.Stream.{Stream, done, faulted, then_stream, rename_fault, step_on}
use Rattle.fq_ops.specs.declared.joins.How.{How}
use Rattle.fq_ops.specs.declared.joins.How.TheVariants.{Inner, Left, Semi, Anti}

-- what stands under names other than the keys
abbrev pub without_keys : {X : Type 0} → List Name → List (Name × X) → List (Name × X)
without_keys on ps = filter (λ p. not (has_name on p.0)) ps

-- the name of a right column in the output
abbrev pub right_name : Fields → Name → Name
right_name left name = if has_name (names_of left) name then name ++ codes "_right" else name

-- the right columns without the keys, under their names in the output
abbrev pub renamed : Fields → List Name → Fields → Fields
renamed left on right = map (λ f. (right_name left f.0, f.1)) (without_keys on right)

-- the right columns that the output takes; a semi and an anti join take none
abbrev pub taken : How → Fields → Fields
taken Inner right = right
taken Left right = right
taken Semi right = []
taken Anti right = []

-- the left columns, then the right ones without the keys
abbrev pub joined_fields : How → Fields → Fields → List Name → Fields
joined_fields how left right on = left ++ renamed left on (taken how right)

abbrev pub kinds_differ : Result Kind StepFault → Result Kind StepFault → Bool
kinds_differ (Ok a) (Ok b) = not (same_kind a b)
kinds_differ (Ok a) (Err f) = false
kinds_differ (Err f) b = false

-- the refusals of a key's name
abbrev pub key_checks : Fields → Fields → Name → List (Option StepFault)
key_checks left right name =
    refuse_if (not (has_name (names_of left) name)) NoSuchColumn
    ∷ refuse_if (not (has_name (names_of right) name)) NoSuchColumn
    ∷ refuse_if (kinds_differ (kind_named left name) (kind_named right name)) WrongKind ∷ []

-- the schema after a join, or the first refusal
abbrev pub join_schema : How → Fields → Fields → List Name → Result Fields StepFault
join_schema how left right on = unless_refused
    (refuse_if (length on == 0) NoColumn
    ∷ (flat_map (key_checks left right) on
    ++ (refuse_if (nat_lt MAX_COLUMNS (length (joined_fields how left right on))) TooMany
    ∷ refuse_if (not (is_distinct same_name on && is_distinct same_name (names_of (joined_fields how left right on)))) DoubleName ∷ [])))
    (joined_fields how left right on)

-- names that can be keys: at least one, each a column of the fields, none twice
pub record AreKeys (fields : Fields) (on : List Name) : Type 0 where
  pub some : 1 ≤ length on
  pub columns : AllPass (has_name (names_of fields)) on
  pub distinct : IsTrue (is_distinct same_name on)

-- whether two lists of key values match: all are equal, and none is null if nulls are not equal
abbrev pub keys_match : Bool → List Cell → List Cell → Bool
keys_match nulls_equal = pointwise (λ a b. (nulls_equal || not (is_null a)) && same_cell a b)

module _ (left_fields right_fields : Fields) (on : List Name) where
  abbrev pub rows_match : Bool → Row → Row → Bool
  rows_match nulls_equal l r = keys_match nulls_equal (map (λ n. value_named left_fields n l) on) (map (λ n. value_named right_fields n r) on)

  -- the values of a right row without the keys
  abbrev pub right_values : Row → Row
  right_values r = map (λ p. p.1) (without_keys on (zip (names_of right_fields) r))

  -- the output of a left row without a match
  abbrev pub unmatched : How → Row → List Row
  unmatched Inner l = []
  unmatched Left l = (l ++ replicate (length (without_keys on right_fields)) Null) ∷ []
  unmatched Semi l = []
  unmatched Anti l = l ∷ []

  -- the output of a left row with these matches, at least one
  abbrev pub matched : How → Row → List Row → List Row
  matched Inner l rs = map (λ m. l ++ right_values m) rs
  matched Left l rs = map (λ m. l ++ right_values m) rs
  matched Semi l rs = l ∷ []
  matched Anti l rs = []

  -- the output of a left row whose matches are these
  abbrev pub pairs : How → Row → List Row → List Row
  pairs how l [] = unmatched how l
  pairs how l (r ∷ rs) = matched how l (r ∷ rs)

  -- the output of a left row
  abbrev pub joined : How → Bool → List Row → Row → List Row
  joined how nulls_equal right l = pairs how l (filter (rows_match nulls_equal l) right)

-- what each row gives, in turn, until one whose output would pass `room` rows in all; the fault is that row's place
abbrev pub within_room : (Row → List Row) → ℕ → List Row → Stream ℕ
within_room output room [] = done []
within_room output room (l ∷ rows) =
    if nat_le (length (output l)) room
    then then_stream (done (output l)) (rename_fault suc (within_room output (room - length (output l)) rows))
    else faulted 0

-- a join of rows, with room for so many
abbrev pub join_rows : How → Bool → Fields → Fields → List Name → List Row → ℕ → List Row → Stream ℕ
join_rows how nulls_equal left_fields right_fields on right room left = within_room (joined left_fields right_fields on how nulls_equal right) room left

-- a join of a stream, where `too_many` is its fault
abbrev pub join_stream : {F : Type 0} → How → Bool → Fields → Fields → List Name → List Row → ℕ → F → Stream F → Stream F
join_stream how nulls_equal left_fields right_fields on right room too_many u = step_on (join_rows how nulls_equal left_fields right_fields on right room) (λ place. too_many) u
