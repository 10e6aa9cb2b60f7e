-- Operators that take a stream piece by piece, as two functions of the rows taken so far: what they pass on of them at once,
-- and what they make of them once no more come.
use Rattle.std.specs.Prelude.{◌≡◌, ℕ, List, [], ◌∷◌, Some, None, Ok, Err}
use Rattle.fq_column.specs.Frame.{Fields, Name, Row}
use Rattle.fq_column.specs.Stream.{Stream, done, ended_as, faulted, rename_fault, then_stream}
use Rattle.fq_expr.specs.Front.{NumberedSteps}
use Rattle.fq_expr.specs.Steps.{apply_steps, fields_after_all}
use Rattle.fq_ops.specs.Aggregate.{Output}
use Rattle.fq_ops.specs.Group.{grouped, grouped_fields}
use Rattle.fq_ops.specs.Join.{join_rows, joined_fields}
use Rattle.fq_ops.specs.Roll.{roll_rows}
use Rattle.fq_ops.specs.Table.{Table}
use Rattle.fq_ops.specs.declared.joins.How.{How}
use Rattle.fq_column.specs.declared.cells.Kind.TheVariants.{Whole}
use Rattle.fq_column.specs.Frame.{put_named}
use Rattle.fq_run.specs.declared.operators.joining.TheConstants.{MAX_JOINED_ROWS}
use Rattle.fq_run.specs.declared.faults.Fault.{Fault}
use Rattle.fq_run.specs.declared.faults.Fault.TheVariants.{JoinRows, Overflow, RollRange, SumRange}

pub record Transform : Type 0 where
  -- the columns of the rows that it takes, and of those that it passes on
  pub takes : Fields
  pub gives : Fields
  pub at_once : List Row → Stream Fault
  pub in_all : List Row → Stream Fault

-- what it passes on of a stream before it knows that no more comes
abbrev pub given : Transform → Stream Fault → Stream Fault
given m u = ended_as u.fault (m.at_once u.rows)

-- what it makes of a whole stream
abbrev pub whole : Transform → Stream Fault → Stream Fault
whole m u = elim u.fault [ Some f ↦ given m u | None ↦ m.in_all u.rows ]

-- what it has passed on of a stream stands at the start of what it makes of all that begins with that stream
abbrev pub IsCausal : Transform → Type 0
IsCausal m = (u w : Stream Fault) → (v : Stream Fault) × (whole m (then_stream u w) ≡ then_stream (given m u) v)

-- ---- transforms in a row

abbrev pub given_all : List Transform → Stream Fault → Stream Fault
given_all [] u = u
given_all (m ∷ ms) u = given_all ms (given m u)

abbrev pub whole_all : List Transform → Stream Fault → Stream Fault
whole_all [] u = u
whole_all (m ∷ ms) u = whole_all ms (whole m u)

-- each takes the columns that the one before it gives
abbrev pub Chain : Fields → List Transform → Fields → Type 0
Chain fields [] after = fields ≡ after
Chain fields (m ∷ ms) after = (m.takes ≡ fields) × Chain m.gives ms after

-- ---- the operators of stages

-- one that goes row by row passes on at once all that it makes
abbrev pub row_by_row : Fields → Fields → (List Row → Stream Fault) → Transform
row_by_row takes gives out = record { takes = takes; gives = gives; at_once = out; in_all = out }

abbrev pub steps_transform : NumberedSteps → Transform
steps_transform f = row_by_row f.fields (fields_after_all f.fields f.steps) (λ rows. apply_steps Overflow f.first f.fields f.steps (done rows))

abbrev pub join_transform : ℕ → How → Table → Fields → Transform
join_transform n how table left = row_by_row left (joined_fields how left table.fields table.on)
    (λ rows. rename_fault (λ _. JoinRows n) (join_rows how table.nulls_equal left table.fields table.on table.rows MAX_JOINED_ROWS rows))

abbrev pub roll_transform : ℕ → Fields → Name → ℕ → ℕ → Name → Transform
roll_transform n fields column window min_samples name = row_by_row fields (put_named fields (name, Whole))
    (λ rows. rename_fault (λ _. RollRange n) (roll_rows fields column window min_samples name rows))

-- a grouping passes nothing on before the end
abbrev pub group_transform : ℕ → Fields → List Name → List Output → Transform
group_transform n fields keys outputs = record {
  takes = fields;
  gives = grouped_fields fields keys outputs;
  at_once = λ rows. done [];
  in_all = λ rows. elim (grouped fields keys outputs rows) [ Ok groups ↦ done groups | Err i ↦ faulted (SumRange n i) ];
}
