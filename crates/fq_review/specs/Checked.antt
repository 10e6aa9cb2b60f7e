-- What a check finds in a file: that it reads without a fault by the columns of a plan, and that it is written as RFC 4180 says.
use Rattle.std.specs.Prelude.{◌+◌, ◌==◌, ◌&&◌, Bool, true, false, ℕ, List, [], ◌∷◌, length, map, nat_le, is_none, is_some, string_bytes, zip, String}
use Rattle.std.specs.Global.{Global}
use Rattle.std.specs.List.{list_all}
use Rattle.fq_column.specs.declared.cells.Kind.{Kind}
use Rattle.fq_column.specs.Frame.{Name, kinds_of}
use Rattle.fq_notation.specs.declared.notations.Notation.{Notation}
use Rattle.fq_csv.specs.Field.{cell_under}
use Rattle.fq_csv.specs.File.{Record, file_stream, noted}
use Rattle.fq_csv.specs.declared.cells.layouts.Layout.{Layout}
use Rattle.fq_csv.specs.declared.scanning.scanners.TheConstants.{MAX_ROWS}
use Rattle.fq_places.specs.Marks.{marks_of}
use Rattle.fq_places.specs.Records.{flaws_of}
use Rattle.fq_places.specs.declared.marks.Mark.{Mark}

-- the names of columns, each with something else
abbrev pub names_in : {X : Type 0} → List (String Global × X) → List Name
names_in columns = map (λ c. string_bytes c.0) columns

-- how a file with these columns is read, where these texts are null and ints are in these notations
abbrev pub layout_of : List (String Global × Kind) → List (List ℕ) → List Notation → Layout
layout_of columns nulls notations = record { schema = map (λ c. (string_bytes c.0, c.1)) columns; nulls = nulls; notations = notations; projection = [] }

-- whether a record is a row: it has as many fields as there are columns, each a cell of its column
abbrev pub is_row : Layout → Record → Bool
is_row layout fields = (length fields == length layout.schema) && list_all (λ (p : (Kind × Notation) × List ℕ). is_some (cell_under layout.nulls p.0.0 p.0.1 p.1)) (zip (noted layout.notations (kinds_of layout.schema)) fields)

-- whether the records after a header are rows, as many as a file may have
abbrev pub are_rows : Layout → List Record → Bool
are_rows layout records = list_all (is_row layout) records && nat_le (length records) MAX_ROWS

-- whether no flaw shows
abbrev pub is_flawless : List Mark → Bool
is_flawless marks = elim (flaws_of marks) [ [] ↦ true | mark ∷ more ↦ false ]

-- whether nothing is wrong in a file: its stream has no fault, and no flaw shows in it
abbrev pub is_clean : ℕ → Layout → List ℕ → Bool
is_clean file layout bytes = is_none (file_stream file layout MAX_ROWS bytes).fault && is_flawless (marks_of bytes)

-- whether nothing is wrong in files, each of which is read by its own layout; the first has this number
abbrev pub are_clean_from : ℕ → List Layout → List (List ℕ) → Bool
are_clean_from n [] files = true
are_clean_from n (layout ∷ layouts) [] = true
are_clean_from n (layout ∷ layouts) (bytes ∷ files) = is_clean n layout bytes && are_clean_from (n + 1) layouts files

abbrev pub are_clean : List Layout → List (List ℕ) → Bool
are_clean layouts files = are_clean_from 0 layouts files
