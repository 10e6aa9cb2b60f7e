-- What a plan means over its files' streams: a frame, or one fault. Steps are numbered from 0, and the outputs of a step from 0.
use Rattle.std.specs.Prelude.{ℕ, ◌+◌, nat_abs, List, [], ◌∷◌, map, drop, Some, None, Result, Err}
use Rattle.std.specs.Result.{result_unwrap_or}
use Rattle.fq_column.specs.Frame.{Fields, Frame}
use Rattle.fq_column.specs.Stream.{Stream, rename_fault}
use Rattle.fq_csv.specs.declared.faults.ScanFault.{ScanFault}
use Rattle.fq_expr.specs.Steps.{apply_step}
use Rattle.fq_ops.specs.Group.{group_stream}
use Rattle.fq_ops.specs.Join.{join_stream}
use Rattle.fq_ops.specs.Roll.{roll_stream}
use Rattle.fq_language.specs.Judged.{judged_step}
use Rattle.fq_language.specs.Plan.{PlanStep, row_wise, join, group_by, rolling_sum, PlanData, item_at, side_files, main_fields}
use Rattle.fq_run.specs.declared.operators.joining.TheConstants.{MAX_JOINED_ROWS}
use Rattle.fq_run.specs.Outcome.{frame_or_fault}
use Rattle.fq_csv.specs.Sources.{but_last}
use Rattle.fq_run.specs.Sources.{concat_streams, first_fault, frames_of, scan_fault, source_streams}
use Rattle.fq_run.specs.declared.faults.Fault.{Fault}
use Rattle.fq_run.specs.declared.faults.Fault.TheVariants.{Overflow, JoinRows, RollRange, SumRange}

-- below, `sides` are the sources before the last
module _ (sides : List Frame) where
  -- step n on a stream of rows with these columns
  abbrev pub apply_plan_step : ℕ → Fields → PlanStep → Stream Fault → Stream Fault
  apply_plan_step n fields (row_wise s) u = apply_step Overflow n fields s u
  apply_plan_step n fields (join source on how nulls_equal) u = elim (item_at sides source) [ None ↦ u | Some right ↦ join_stream how nulls_equal fields right.fields on right.rows MAX_JOINED_ROWS (JoinRows n) u ]
  apply_plan_step n fields (group_by keys aggs) u = group_stream fields keys aggs (SumRange n) u
  apply_plan_step n fields (rolling_sum column window min_samples name) u = roll_stream fields column (nat_abs window) (nat_abs min_samples) name (RollRange n) u

  -- the columns after a step that is not refused
  abbrev pub fields_after : Fields → PlanStep → Fields
  fields_after fields s = result_unwrap_or (judged_step (map (λ f. f.fields) sides) fields s) fields

  -- the columns and the stream after steps, numbered from n, each on the whole stream that the step before gave
  abbrev pub apply_plan_steps : ℕ → Fields → List PlanStep → Stream Fault → Fields × Stream Fault
  apply_plan_steps n fields [] u = (fields, u)
  apply_plan_steps n fields (s ∷ steps) u = apply_plan_steps (n + 1) (fields_after fields s) steps (apply_plan_step n fields s u)

-- what steps, numbered from n, make of the main stream
abbrev pub outcome : List Frame → ℕ → Fields → List PlanStep → Stream Fault → Result Frame Fault
outcome sides n fields steps u = let after = apply_plan_steps sides n fields steps u in frame_or_fault after.0 after.1

-- the meaning over the streams of the sources before the last, and of the last: the first fault of the former, even if no
-- step uses that source, or else what the steps make of the latter
abbrev pub meaning_of_sources : PlanData → List (Stream Fault) → Stream Fault → Result Frame Fault
meaning_of_sources p sides main = elim (first_fault sides)
    [ Some f ↦ Err f | None ↦ outcome (frames_of (but_last p.sources) sides) 0 (main_fields p) p.steps main ]

-- the meaning over the files' streams, in argument order
abbrev pub meaning_of_files : PlanData → List (Stream Fault) → Result Frame Fault
meaning_of_files p us = meaning_of_sources p (source_streams (but_last p.sources) us) (concat_streams (drop (side_files p) us))

-- the same, for streams that end in faults of the files
abbrev pub meaning : PlanData → List (Stream ScanFault) → Result Frame Fault
meaning p us = meaning_of_files p (map (rename_fault scan_fault) us)
