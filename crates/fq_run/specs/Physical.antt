-- A physical plan: the sources of a run, the leading row-wise steps on the rows of the last, the stages after them, and how the frame is
-- written; and what a run of it comes to.
use Rattle.std.specs.Prelude.{ℕ, List, [], map, drop, sum_by, flat_map, replicate, Some, None, Result, Err}
use Rattle.fq_column.specs.Frame.{Fields, Frame}
use Rattle.fq_column.specs.Stream.{Stream, rename_fault}
use Rattle.fq_csv.specs.declared.faults.ScanFault.{ScanFault}
use Rattle.fq_csv.specs.declared.cells.layouts.Layout.{Layout}
use Rattle.fq_expr.specs.Expression.{Step}
use Rattle.fq_expr.specs.Steps.{apply_steps, fields_after_all}
use Rattle.fq_notation.specs.declared.notations.Notation.{Notation}
use Rattle.fq_run.specs.Outcome.{outcome}
use Rattle.fq_csv.specs.Sources.{Source, but_last, last_or, layout_of, streams_of_files}
use Rattle.fq_run.specs.Sources.{concat_streams, first_fault, frames_of, scan_fault, source_streams}
use Rattle.fq_run.specs.declared.faults.Fault.{Fault}
use Rattle.fq_run.specs.declared.faults.Fault.TheVariants.{Overflow}
use Rattle.fq_run.specs.declared.stages.Stage.{Stage}

pub record Physical : Type 0 where
  pub sources : List Source
  pub front : List Step
  pub stages : List Stage
  -- how the ints of the frame's columns are written, a notation for each; a column past them is plain
  pub notations : List Notation

-- how many files are wanted, and how many of them are of the sources before the last
abbrev pub files_wanted : Physical → ℕ
files_wanted p = sum_by (λ s. s.files) p.sources

abbrev pub side_files : Physical → ℕ
side_files p = sum_by (λ s. s.files) (but_last p.sources)

-- how each file is read, and the streams of the files' bytes, in argument order
abbrev pub file_layouts : Physical → List Layout
file_layouts p = flat_map (λ s. replicate s.files (layout_of s)) p.sources

abbrev pub file_streams : Physical → List (List ℕ) → List (Stream ScanFault)
file_streams p files = streams_of_files (file_layouts p) files

-- the columns of the sources before the last, of the last, and of the last after the leading steps
abbrev pub side_fields : Physical → List Fields
side_fields p = map (λ s. s.fields) (but_last p.sources)

abbrev pub main_fields : Physical → Fields
main_fields p = last_or [] (map (λ s. s.fields) p.sources)

abbrev pub front_fields : Physical → Fields
front_fields p = fields_after_all (main_fields p) p.front

-- the columns of the frame
abbrev pub last_columns : Physical → Fields
last_columns p = last_or (front_fields p) (map (λ s. s.after) p.stages)

-- the leading steps, which are numbered from 0, on a stream
abbrev pub after_leading : Physical → Stream Fault → Stream Fault
after_leading p u = apply_steps Overflow 0 (main_fields p) p.front u

-- the outcome over the streams of the sources before the last, and of the last: the first fault of the former, or else what the
-- leading steps and the stages make of the latter
abbrev pub outcome_of_sources : Physical → List (Stream Fault) → Stream Fault → Result Frame Fault
outcome_of_sources p sides main = elim (first_fault sides)
    [ Some f ↦ Err f | None ↦ outcome (frames_of (but_last p.sources) sides) (front_fields p) p.stages (after_leading p main) ]

-- the outcome over the files' streams, in argument order
abbrev pub outcome_of_files : Physical → List (Stream Fault) → Result Frame Fault
outcome_of_files p us = outcome_of_sources p (source_streams (but_last p.sources) us) (concat_streams (drop (side_files p) us))

-- the same, for streams that end in faults of the files
abbrev pub outcome_of_run : Physical → List (Stream ScanFault) → Result Frame Fault
outcome_of_run p us = outcome_of_files p (map (rename_fault scan_fault) us)
