-- A file's stream (RFC 4180): its first record is the header, each later one is a row, up to the first that faults.
use Rattle.std.specs.Prelude.{ℕ, Bool, ◌+◌, ◌==◌, not, nat_lt, List, [], ◌∷◌, length, zip, Option, Result, Err, if◌then◌else◌}
use Rattle.std.specs.List.{range_with_len}
use Rattle.std.specs.Result.{result_map_both}
use Rattle.csv.specs.Reading.{default_config, records, strip_bom}
use Rattle.fq_column.specs.declared.cells.Cell.{Cell}
use Rattle.fq_column.specs.declared.cells.Kind.{Kind}
use Rattle.fq_column.specs.Frame.{Fields, Row, kinds_of, names_of, same_name}
use Rattle.fq_column.specs.Lists.{zip_with, all_or_missing}
use Rattle.fq_column.specs.Masked.{masked}
use Rattle.fq_column.specs.Stream.{Stream, one_by_one, faulted}
use Rattle.fq_notation.specs.declared.notations.Notation.{Notation}
use Rattle.fq_notation.specs.declared.notations.Notation.TheVariants.{Plain}
use Rattle.fq_csv.specs.Field.{cell_under}
use Rattle.fq_csv.specs.declared.faults.ScanFault.{ScanFault}
use Rattle.fq_csv.specs.declared.faults.ScanFault.TheVariants.{Header, Width, BadCell, TooLong}
use Rattle.fq_csv.specs.declared.cells.layouts.Layout.{Layout}
use lib.Pointwise.{pointwise}

-- a record, as its fields
abbrev pub Record : Type 0
Record = List (List ℕ)

-- the kinds of columns, each with its notation; a column past the notations is plain
abbrev pub noted : List Notation → List Kind → List (Kind × Notation)
noted ns [] = []
noted [] (k ∷ ks) = (k, Plain) ∷ noted [] ks
noted (n ∷ ns) (k ∷ ks) = (k, n) ∷ noted ns ks

-- the cells that a record's fields are under columns of these kinds and notations, by any reading of fields
abbrev pub cells_by : (Kind → Notation → List ℕ → Option Cell) → List Notation → List Kind → Record → List (Option Cell)
cells_by read notations kinds fs = zip_with (λ (k : Kind × Notation) field. read k.0 k.1 field) (noted notations kinds) fs

-- by any reading of fields and these notations, where these marks say which columns are kept
module _ (read : Kind → Notation → List ℕ → Option Cell) (notations : List Notation) (marks : List Bool) (file : ℕ) (fields : Fields) (limit : ℕ) where
  -- the row that a record is, by the record's number, or its first fault
  abbrev pub row_by : ℕ → Record → Result (List Row) ScanFault
  row_by n fs =
      if nat_lt limit n then Err (TooLong file)
      else if not (length fs == length fields) then Err (Width file n)
      else result_map_both (λ row. masked marks row ∷ []) (BadCell file n) (all_or_missing (cells_by read notations (kinds_of fields) fs))

  -- the stream of the records that follow n rows
  abbrev pub rows_by : ℕ → List Record → Stream ScanFault
  rows_by n rs = one_by_one (λ p. row_by p.0 p.1) (zip (range_with_len (n + 1) (length rs)) rs)

  -- the stream of all records
  abbrev pub rows_under_header_by : List Record → Stream ScanFault
  rows_under_header_by [] = faulted (Header file)
  rows_under_header_by (r ∷ rs) = if pointwise same_name (names_of fields) r then rows_by 0 rs else faulted (Header file)

  -- the stream of a file's bytes
  abbrev pub stream_by : List ℕ → Stream ScanFault
  stream_by bytes = rows_under_header_by (records default_config (strip_bom bytes))

-- columns of which each is kept and in plain digits, and no text is null but the empty one
abbrev pub plain : Fields → Layout
plain fields = record { schema = fields; nulls = []; notations = []; projection = [] }

-- the layout, with each column kept
abbrev pub all_kept : Layout → Layout
all_kept layout = record { schema = layout.schema; nulls = layout.nulls; notations = layout.notations; projection = [] }

-- by its layout: its columns, the texts that are null in each of them, their notations, and which of them are kept
module _ (file : ℕ) (layout : Layout) (limit : ℕ) where
  abbrev pub row_of : ℕ → Record → Result (List Row) ScanFault
  row_of = row_by (cell_under layout.nulls) layout.notations layout.projection file layout.schema limit

  abbrev pub rows_after : ℕ → List Record → Stream ScanFault
  rows_after = rows_by (cell_under layout.nulls) layout.notations layout.projection file layout.schema limit

  abbrev pub rows_under_header : List Record → Stream ScanFault
  rows_under_header = rows_under_header_by (cell_under layout.nulls) layout.notations layout.projection file layout.schema limit

  abbrev pub file_stream : List ℕ → Stream ScanFault
  file_stream = stream_by (cell_under layout.nulls) layout.notations layout.projection file layout.schema limit
