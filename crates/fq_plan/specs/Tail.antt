-- What a plan means by the items of its files: each file's rows in pieces, which for the main source have gone through the leading
-- row-wise steps.
use Rattle.std.specs.Prelude.{ℕ, ◌+◌, List, [], ◌∷◌, ◌++◌, map, length, Option, Some, None, Result, Err}
use Rattle.fq_column.specs.Frame.{Frame}
use Rattle.fq_column.specs.Lists.{pieces}
use Rattle.fq_column.specs.Stream.{Stream, done, faulted}
use Rattle.fq_expr.specs.Steps.{fields_after_all}
use Rattle.fq_plan.specs.Meaning.{outcome}
use Rattle.fq_language.specs.Plan.{PlanData, files_wanted, front_of, side_files, main_fields, rest_of}
use Rattle.fq_run.specs.Physical.{Physical}
use Rattle.fq_csv.specs.Sources.{but_last}
use Rattle.fq_run.specs.Sources.{concat_streams, first_fault, frames_of}
use Rattle.fq_run.specs.Tail.{Taken, items_from, tagged, taken_streams, worked}
use Rattle.fq_run.specs.declared.faults.Fault.{Fault}

-- what is read, and stepped on in the workers: the sources of a plan, and its leading row-wise steps
abbrev pub reading : PlanData → Physical
reading p = record { sources = p.sources; front = front_of p.steps; stages = []; notations = p.notations }

-- what the other steps make of the worked items joined, if no source before the last ends in a fault
abbrev pub finished : PlanData → List (Stream Fault) → List (Stream Fault) → Result Frame Fault
finished p sides items = elim (first_fault sides) [
  | Some f ↦ Err f
  | None ↦ outcome (frames_of (but_last p.sources) sides) (length (front_of p.steps)) (fields_after_all (main_fields p) (front_of p.steps)) (rest_of p.steps) (concat_streams items)
]

-- a file's fault as one item more after its batches
abbrev pub last_item : {F : Type 0} → Option F → List (Stream F)
last_item None = []
last_item (Some f) = faulted f ∷ []

-- a file's rows in batches, and then its fault if it has one
abbrev pub items_of : {F : Type 0} → ℕ → Stream F → List (Stream F)
items_of batch_size u = map done (pieces batch_size u.rows) ++ last_item u.fault

-- so the items of files, which are numbered from this one on, as the workers give them
abbrev pub worked_items : PlanData → ℕ → ℕ → List (Stream Fault) → List (List (Stream Fault))
worked_items p batch_size file [] = []
worked_items p batch_size file (u ∷ us) = map (worked (reading p) file) (items_of batch_size u) ∷ worked_items p batch_size (file + 1) us

-- the items of all files, by file, then in each file's order
abbrev pub all_items : PlanData → ℕ → List (Stream Fault) → List Taken
all_items p batch_size us = tagged 0 (worked_items p batch_size 0 us)

-- the outcome of what was taken
abbrev pub outcome_of_taken : PlanData → List Taken → Result Frame Fault
outcome_of_taken p taken = finished p (taken_streams 0 (but_last p.sources) taken) (items_from (side_files p) (files_wanted p) taken)
