-- A plan whose ints are in notations by the names of their columns, and why such notations are refused.
use Rattle.std.specs.Prelude.{◌||◌, ◌++◌, Bool, List, [], ◌∷◌, length, map, Option, Some, None, Result, Ok, Err, if◌then◌else◌}
use Rattle.std.specs.List.{list_any}
use Rattle.fq_column.specs.Frame.{Fields, Name, has_name}
use Rattle.fq_csv.specs.Sources.{last_or}
use Rattle.fq_csv.specs.declared.cells.layouts.Layout.{Layout}
use Rattle.fq_language.specs.Judged.{judged}
use Rattle.fq_language.specs.Plan.{PlanData, file_layouts}
use Rattle.fq_language.specs.declared.faults.CheckFault.{CheckFault}
use Rattle.fq_notation.specs.Notation.{Named, notation_in}
use Rattle.fq_plan.specs.declared.noted.NotationFault.{NotationFault}
use Rattle.fq_plan.specs.declared.noted.NotationFault.TheVariants.{NoColumn, Twice}
use Rattle.fq_plan.specs.Followed.{followed, schemas_of}
use Rattle.fq_run.specs.Noted as run
use Rattle.fq_run.specs.Noted.{noted_source, reads_ints}

-- the columns after the last step, of steps that are not refused
abbrev pub last_judged : Result (List Fields) CheckFault → Fields
last_judged r = elim r [ Err refusal ↦ [] | Ok schemas ↦ last_or [] schemas ]

-- the columns of the frame of a plan that is not refused
abbrev pub frame_fields : PlanData → Fields
frame_fields p = last_judged (judged p)

-- the notations of its frame's columns, by those that names declare
abbrev pub frame_named : List Named → PlanData → List Named
frame_named named p = elim (followed named p) [ Err refusal ↦ [] | Ok last ↦ last ]

-- a plan whose sources are read in these notations, and whose frame is printed in those that follow
abbrev pub noted : List Named → PlanData → PlanData
noted named p = record {
  sources = map (noted_source named) p.sources;
  steps = p.steps;
  notations = map (notation_in (frame_named named p)) (frame_fields p);
}

-- how a file is read whose ints are in notations by the names of their columns, and how each of a plan's files is, in argument order
abbrev pub noted_layout : List Named → Layout → Layout
noted_layout named layout = record layout { notations = map (notation_in named) layout.schema }

abbrev pub noted_layouts : List Named → PlanData → List Layout
noted_layouts named p = map (noted_layout named) (file_layouts p)

-- whether a source has, or a step leaves, a column of ints of this name
abbrev pub has_ints : PlanData → Name → Bool
has_ints p name = reads_ints p.sources name || list_any (λ fields. run.has_ints fields name) (schemas_of p)

-- the first entry, after others under these names, whose name stands among them, or is of no column of ints
abbrev pub refused_after : PlanData → List Name → List Named → Option NotationFault
refused_after p names [] = None
refused_after p names (entry ∷ named) =
    if has_name names entry.0 then Some (Twice (length names))
    else if has_ints p entry.0 then refused_after p (names ++ entry.0 ∷ []) named
    else Some (NoColumn (length names))

-- the first entry that is refused, or else the first step that leaves columns without notations
abbrev pub notation_refusal : PlanData → List Named → Option NotationFault
notation_refusal p named = elim (refused_after p [] named) [
  | Some refusal ↦ Some refusal
  | None ↦ elim (followed named p) [ Err refusal ↦ Some refusal | Ok last ↦ None ]
]
