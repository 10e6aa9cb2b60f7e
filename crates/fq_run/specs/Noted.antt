-- A plan whose ints are in notations by the names of their columns.
use Rattle.std.specs.Prelude.{Bool, true, false, List, map, Ok, Err}
use Rattle.std.specs.List.{list_any}
use Rattle.fq_column.specs.Frame.{Fields, Name}
use Rattle.fq_column.specs.Schema.{kind_named}
use Rattle.fq_column.specs.declared.cells.Kind.TheVariants.{Whole, Text, Truth}
use Rattle.fq_csv.specs.Sources.{Source}
use Rattle.fq_csv.specs.declared.cells.layouts.Layout.{Layout}
use Rattle.fq_csv.specs.declared.sources.SourceFiles.{SourceFiles}
use Rattle.fq_notation.specs.Notation.{Named, notation_in}
use Rattle.fq_run.specs.Physical.{Physical, last_columns}

-- a source whose ints are read in these notations
abbrev pub noted_source : List Named → Source → Source
noted_source named s = record s { notations = map (notation_in named) s.fields }

-- the same of a source as a plan holds it
abbrev pub noted_files : List Named → SourceFiles → SourceFiles
noted_files named s = record s { layout = (let layout : Layout = record s.layout { notations = map (notation_in named) s.layout.schema } in layout) }

-- a plan whose sources are read in some notations, and whose frame is printed in others
abbrev pub noted : List Named → List Named → Physical → Physical
noted named last p = record {
  sources = map (noted_source named) p.sources;
  front = p.front;
  stages = p.stages;
  notations = map (notation_in last) (last_columns p);
}

-- whether one of the columns is of ints and has this name
abbrev pub has_ints : Fields → Name → Bool
has_ints fields name = elim (kind_named fields name) [ Ok Whole ↦ true | Ok Text ↦ false | Ok Truth ↦ false | Err fault ↦ false ]

-- whether one of the sources has such a column
abbrev pub reads_ints : List Source → Name → Bool
reads_ints sources name = list_any (λ s. has_ints s.fields name) sources
