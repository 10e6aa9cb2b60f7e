-- The sources of a run, of which the last is the main one, and the streams of their files. Files are numbered in argument order from 0,
-- a file's rows from 1.
use Rattle.std.specs.Prelude.{ℕ, Bool, ◌-◌, List, take, zip, length, slice_index_or}
use Rattle.fq_column.specs.Frame.{Fields}
use Rattle.fq_column.specs.Lists.{numbers, zip_with}
use Rattle.fq_column.specs.Stream.{Stream}
use Rattle.fq_notation.specs.declared.notations.Notation.{Notation}
use Rattle.fq_csv.specs.File.{file_stream}
use Rattle.fq_csv.specs.declared.faults.ScanFault.{ScanFault}
use Rattle.fq_csv.specs.declared.cells.layouts.Layout.{Layout}
use Rattle.fq_csv.specs.declared.scanning.scanners.TheConstants.{MAX_ROWS}
use Rattle.fq_csv.specs.declared.sources.SourceFiles.{SourceFiles}

-- a source: the number of its files, its columns, the texts that are null in each of them, their notations, and marks of the columns that are kept
pub record Source : Type 0 where
  pub files : ℕ
  pub fields : Fields
  pub nulls : List (List ℕ)
  pub notations : List Notation
  pub projection : List Bool

abbrev pub source_of_files : SourceFiles → Source
source_of_files s = record { files = s.files; fields = s.layout.schema; nulls = s.layout.nulls; notations = s.layout.notations; projection = s.layout.projection }

-- how the files of a source are read
abbrev pub layout_of : Source → Layout
layout_of s = record { schema = s.fields; nulls = s.nulls; notations = s.notations; projection = s.projection }

-- all but the last of a list
abbrev pub but_last : {X : Type 0} → List X → List X
but_last xs = take (length xs - 1) xs

-- the last of a list, or else x
abbrev pub last_or : {X : Type 0} → X → List X → X
last_or x xs = slice_index_or xs (length xs - 1) x

-- the most rows of a file
abbrev pub row_limit : ℕ
row_limit = MAX_ROWS

-- the streams of files' bytes, each with its number and its layout
abbrev pub streams_of_files : List Layout → List (List ℕ) → List (Stream ScanFault)
streams_of_files layouts files = zip_with (λ i file. file_stream i file.0 row_limit file.1) (numbers (length files)) (zip layouts files)
