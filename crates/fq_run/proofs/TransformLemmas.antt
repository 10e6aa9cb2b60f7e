-- The transforms of operators: what they have passed on is never taken back, and what they make of a stream is the steps' meaning.
use Rattle.std.proofs.Common.{◌≡◌, ℕ, ◌+◌, ◌-◌, List, [], ◌++◌, length, Option, Some, None, refl, ap, sym, ◌∙◌, zip}
use Rattle.fq_column.specs.declared.cells.Cell.{Cell}
use Rattle.fq_column.specs.Frame.{Fields, Name, Row}
use Rattle.fq_column.specs.Stream.{Stream, done, ended_as, one_by_one, rename_fault, then_stream}
use Rattle.fq_expr.specs.Front.{NumberedSteps}
use Rattle.fq_expr.specs.Steps.{apply_steps, fields_after_all}
use Rattle.fq_column.proofs.StreamLemmas.{then_stream-assoc}
use Rattle.fq_expr.proofs.StepLemmas.{apply_steps-then, rename_fault-then}
use Rattle.fq_ops.specs.Aggregate.{Output}
use Rattle.fq_ops.specs.Group.{group_stream}
use Rattle.fq_ops.specs.Join.{join_rows, join_stream, joined, joined_fields}
use Rattle.fq_ops.specs.Roll.{roll_rows, roll_stream, with_sum}
use Rattle.fq_ops.specs.Table.{Table}
use Rattle.fq_ops.specs.declared.joins.How.{How}
use Rattle.fq_ops.proofs.JoinLemmas.{within-parts}
use Rattle.fq_run.specs.declared.operators.joining.TheConstants.{MAX_JOINED_ROWS}
use Rattle.fq_run.specs.Transforms.{IsCausal, Transform, given, group_transform, join_transform, roll_transform, row_by_row, steps_transform, whole}
use Rattle.fq_run.specs.declared.faults.Fault.{Fault}
use Rattle.fq_run.specs.declared.faults.Fault.TheVariants.{JoinRows, Overflow, RollRange, SumRange}
use Rattle.fq_run.proofs.GatheringLemmas.{then-nothing}
use Rattle.fq_run.proofs.OperatorLemmas.{more-sums, roll-on}
use Rattle.fq_run.proofs.StageLemmas.{apply_steps-none, rows-then-end}

abbrev stream : List Row → Option Fault → Stream Fault
stream rows fault = record { rows = rows; fault = fault }

-- what comes after an end is nothing
then-ended : (v : Stream Fault) (f : Fault) (w : Stream Fault) → then_stream (ended_as (Some f) v) w ≡ ended_as (Some f) v
then-ended v f w = go v.rows v.fault
  where
    go : (rows : List Row) (fault : Option Fault) → then_stream (ended_as (Some f) (stream rows fault)) w ≡ ended_as (Some f) (stream rows fault)
    go rows None = refl
    go rows (Some g) = refl

-- ---- operators that go row by row

-- what it passes on of rows stands at the start of what it passes on of more
abbrev Continues : (List Row → Stream Fault) → Type 0
Continues out = (rows more : List Row) → (v : Stream Fault) × (out (rows ++ more) ≡ then_stream (out rows) v)

module _ (takes gives : Fields) (out : List Row → Stream Fault) where
  abbrev transform : Transform
  transform = row_by_row takes gives out

  pub whole-given : (u : Stream Fault) → whole transform u ≡ given transform u
  whole-given u = go u.rows u.fault
    where
      go : (rows : List Row) (fault : Option Fault) → whole transform (stream rows fault) ≡ given transform (stream rows fault)
      go rows None = sym (then-nothing (out rows))
      go rows (Some f) = refl

  pub row-causal : Continues out → IsCausal transform
  row-causal more u w = go u.rows u.fault
    where
      go : (rows : List Row) (fault : Option Fault) → (v : Stream Fault) × (whole transform (then_stream (stream rows fault) w) ≡ then_stream (given transform (stream rows fault)) v)
      go rows (Some f) = (done [], sym (then-ended (out rows) f (done [])))
      go rows None = let next = more rows w.rows in (
        ended_as w.fault next.0,
        whole-given (stream (rows ++ w.rows) w.fault)
            ∙ ap (ended_as w.fault) next.1
            ∙ then_stream-assoc (out rows) next.0 (stream [] w.fault)
            ∙ ap (λ (a : Stream Fault). then_stream a (ended_as w.fault next.0)) (sym (then-nothing (out rows))),
      )

pub steps-causal : (f : NumberedSteps) → IsCausal (steps_transform f)
steps-causal f = row-causal f.fields (fields_after_all f.fields f.steps) (λ rows. apply_steps Overflow f.first f.fields f.steps (done rows))
    (λ rows more. (apply_steps Overflow f.first f.fields f.steps (done more), apply_steps-then Overflow f.first f.fields f.steps (done rows) (done more)))

pub join-causal : (n : ℕ) (how : How) (t : Table) (left : Fields) → IsCausal (join_transform n how t left)
join-causal n how t left = row-causal left (joined_fields how left t.fields t.on) (λ rows. rename_fault (λ _. JoinRows n) (join_rows how t.nulls_equal left t.fields t.on t.rows MAX_JOINED_ROWS rows))
    (λ rows more.
    let v = rename_fault (λ p. length rows + p) (join_rows how t.nulls_equal left t.fields t.on t.rows (MAX_JOINED_ROWS - length (join_rows how t.nulls_equal left t.fields t.on t.rows MAX_JOINED_ROWS rows).rows) more) in (
      rename_fault (λ _. JoinRows n) v,
      ap (rename_fault (λ _. JoinRows n)) (within-parts (joined left t.fields t.on how t.nulls_equal t.rows) MAX_JOINED_ROWS rows more)
          ∙ rename_fault-then (λ (_ : ℕ). JoinRows n) (join_rows how t.nulls_equal left t.fields t.on t.rows MAX_JOINED_ROWS rows) v,
    ))

pub roll-causal : (n : ℕ) (fields : Fields) (column : Name) (window least : ℕ) (name : Name) → IsCausal (roll_transform n fields column window least name)
roll-causal n fields column window least name = row-causal fields (roll_transform n fields column window least name).gives (λ rows. rename_fault (λ _. RollRange n) (roll_rows fields column window least name rows))
    (λ rows more.
    let v = one_by_one (λ (p : Row × Option Cell). with_sum fields name p.0 p.1) (zip more (more-sums window least fields column name rows more)) in (
      rename_fault (λ _. RollRange n) v,
      ap (rename_fault (λ _. RollRange n)) (roll-on window least fields column name rows more)
          ∙ rename_fault-then (λ (_ : Unit {0}). RollRange n) (roll_rows fields column window least name rows) v,
    ))

pub group-causal : (n : ℕ) (fields : Fields) (keys : List Name) (outputs : List Output) → IsCausal (group_transform n fields keys outputs)
group-causal n fields keys outputs u w = go u.rows u.fault
  where
    m : Transform
    m = group_transform n fields keys outputs

    go : (rows : List Row) (fault : Option Fault) → (v : Stream Fault) × (whole (group_transform n fields keys outputs) (then_stream (stream rows fault) w) ≡ then_stream (given (group_transform n fields keys outputs) (stream rows fault)) v)
    go rows None = (whole (group_transform n fields keys outputs) (then_stream (stream rows None) w), refl)
    go rows (Some f) = (done [], refl)

-- ---- the meaning of steps

pub steps-whole : (f : NumberedSteps) (u : Stream Fault) → whole (steps_transform f) u ≡ apply_steps Overflow f.first f.fields f.steps u
steps-whole f u =
    whole-given f.fields (fields_after_all f.fields f.steps) (λ rows. apply_steps Overflow f.first f.fields f.steps (done rows)) u
    ∙ ap (λ (a : Stream Fault). then_stream (apply_steps Overflow f.first f.fields f.steps (done u.rows)) a) (sym (apply_steps-none f.first f.fields f.steps u.fault))
    ∙ sym (apply_steps-then Overflow f.first f.fields f.steps (done u.rows) (stream [] u.fault))
    ∙ ap (apply_steps Overflow f.first f.fields f.steps) (rows-then-end u)

pub join-whole : (n : ℕ) (how : How) (t : Table) (left : Fields) (u : Stream Fault) → whole (join_transform n how t left) u ≡ join_stream how t.nulls_equal left t.fields t.on t.rows MAX_JOINED_ROWS (JoinRows n) u
join-whole n how t left u = whole-given left (joined_fields how left t.fields t.on) (λ rows. rename_fault (λ _. JoinRows n) (join_rows how t.nulls_equal left t.fields t.on t.rows MAX_JOINED_ROWS rows)) u

pub roll-whole : (n : ℕ) (fields : Fields) (column : Name) (window least : ℕ) (name : Name) (u : Stream Fault) →
    whole (roll_transform n fields column window least name) u ≡ roll_stream fields column window least name (RollRange n) u
roll-whole n fields column window least name u =
    whole-given fields (roll_transform n fields column window least name).gives (λ rows. rename_fault (λ _. RollRange n) (roll_rows fields column window least name rows)) u

pub group-whole : (n : ℕ) (fields : Fields) (keys : List Name) (outputs : List Output) (u : Stream Fault) →
    whole (group_transform n fields keys outputs) u ≡ group_stream fields keys outputs (SumRange n) u
group-whole n fields keys outputs u = go u.rows u.fault
  where
    go : (rows : List Row) (fault : Option Fault) → whole (group_transform n fields keys outputs) (stream rows fault) ≡ group_stream fields keys outputs (SumRange n) (stream rows fault)
    go rows None = refl
    go rows (Some f) = refl
