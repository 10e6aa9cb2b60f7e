-- Rolling sums (Polars, `Expr.rolling_sum`).
use Rattle.std.specs.Prelude.{ℕ, suc, ◌-◌, Bool, not, ◌&&◌, List, [], ◌∷◌, map, zip, length, take, drop, nat_lt, nat_le, ℤ, pos, int_lt, Option, Some, Result, Ok, Err, if◌then◌else◌}
use Rattle.std.specs.Option.{option_map_or}
use Rattle.fq_column.specs.declared.cells.Kind.TheVariants.{Whole}
use Rattle.fq_column.specs.declared.cells.Cell.{Cell}
use Rattle.fq_column.specs.declared.cells.Cell.TheVariants.{Null}
use Rattle.fq_column.specs.declared.faults.StepFault.{StepFault}
use Rattle.fq_column.specs.declared.faults.StepFault.TheVariants.{WrongKind, TooMany, Window, Samples}
use Rattle.fq_column.specs.declared.schemas.TheConstants.{MAX_COLUMNS}
use Rattle.fq_column.specs.Cell.{fitted, same_kind}
use Rattle.fq_column.specs.Frame.{Fields, Name, Row, names_of, put_named, value_named}
use Rattle.fq_column.specs.Lists.{numbers}
use Rattle.fq_column.specs.Refusal.{refuse_if, unless_refused, and_then}
use Rattle.fq_column.specs.Schema.{kind_named}
use Rattle.fq_ops.specs.declared.rolls.TheConstants.{MAX_WINDOW}
use Rattle.fq_column.specs.Stream.{Stream, one_by_one, step_on}
use Rattle.fq_ops.specs.Aggregate.{wholes, int_sum}

-- whether a number lies from low to high
abbrev pub is_from_to : ℤ → ℤ → ℤ → Bool
is_from_to low high z = not (int_lt z low) && not (int_lt high z)

-- the schema after a rolling sum, or the first refusal
abbrev pub roll_schema : Fields → Name → ℤ → ℤ → Name → Result Fields StepFault
roll_schema fields column window min_samples name = and_then (kind_named fields column) (λ k. unless_refused
    (refuse_if (not (same_kind k Whole)) WrongKind
    ∷ refuse_if (not (is_from_to (pos 1) (pos MAX_WINDOW) window)) Window
    ∷ refuse_if (not (is_from_to (pos 1) window min_samples)) Samples
    ∷ refuse_if (nat_lt MAX_COLUMNS (length (put_named fields (name, Whole)))) TooMany ∷ [])
    (put_named fields (name, Whole)))

-- the values at place i and the n - 1 before it that are not null
abbrev pub window_at : ℕ → List Cell → ℕ → List ℤ
window_at n cells i = wholes (drop (suc i - n) (take (suc i) cells))

-- their sum if there are at least m, else null; or none if a given sum does not fit 64 bits
abbrev pub rolled_at : ℕ → ℕ → List Cell → ℕ → Option Cell
rolled_at n m cells i = if nat_le m (length (window_at n cells i)) then fitted (int_sum (window_at n cells i)) else Some Null

abbrev pub rolled : ℕ → ℕ → List Cell → List (Option Cell)
rolled n m cells = map (rolled_at n m cells) (numbers (length cells))

-- rows with the rolling sum of a column under a name; the fault is at the first row whose sum does not fit
abbrev pub with_sum : Fields → Name → Row → Option Cell → Result (List Row) (Unit {0})
with_sum fields name row sum = option_map_or (λ c. Ok (map (λ p. p.1) (put_named (zip (names_of fields) row) (name, c)) ∷ [])) sum (Err tt)

abbrev pub roll_rows : Fields → Name → ℕ → ℕ → Name → List Row → Stream (Unit {0})
roll_rows fields column n m name rows = one_by_one (λ p. with_sum fields name p.0 p.1) (zip rows (rolled n m (map (value_named fields column) rows)))

-- a rolling sum of a stream, where `out_of_range` is its fault
abbrev pub roll_stream : {F : Type 0} → Fields → Name → ℕ → ℕ → Name → F → Stream F → Stream F
roll_stream fields column n m name out_of_range u = step_on (roll_rows fields column n m name) (λ _. out_of_range) u
