-- What files draft: the kind of a column, by its fields, and the sources.
use Rattle.std.specs.Prelude.{◌≡◌, ◌==◌, ◌<◌, Bool, true, false, ℕ, zero, suc, List, [], ◌∷◌, ◌++◌, Option, Some, None, drop, get_or, is_some, if◌then◌else◌, length, min, reverse, slice_get, string_bytes, String}
use Rattle.std.specs.Cmp.Lexicographic.{pointwise}
use Rattle.std.specs.Fmt.{signed_decimal}
use Rattle.std.specs.Global.{Global}
use Rattle.std.specs.List.{flat_map, list_all}
use Rattle.std.specs.Str.{bytes_eq}
use Rattle.fq_column.specs.declared.cells.Kind.{Kind}
use Rattle.fq_column.specs.declared.cells.Kind.TheVariants as kind
use Rattle.fq_column.specs.Frame.{Name, same_name}
use Rattle.fq_notation.specs.Dates.{date_of}
use Rattle.fq_notation.specs.Decimals.{decimal_of}
use Rattle.fq_notation.specs.Digits.{whole_of}
use Rattle.fq_notation.specs.Notation.{notation_named}
use Rattle.fq_notation.specs.declared.notations.Notation.{Notation}
use Rattle.fq_notation.specs.declared.notations.Notation.TheVariants.{Plain, Decimal, Date}
use Rattle.fq_csv.specs.Field.{is_null, truth_of}
use Rattle.fq_csv.specs.File.{Record}
use Rattle.fq_review.specs.Checked.{names_in}
use Rattle.fq_review.specs.declared.drafts.Reading.{Reading}
use Rattle.fq_review.specs.declared.drafts.Source.{Source}
use Rattle.fq_review.specs.declared.guesses.Guess.{Guess}

-- whether a field is a whole number as one is printed: without a plus, and without zeros before its digits
abbrev pub is_printed : List ℕ → Bool
is_printed field = elim (whole_of field) [ Some n ↦ bytes_eq (signed_decimal n) field | None ↦ false ]

-- whether a field is an int as a column has them whose notation is this; one in digits is an int only as it is printed
abbrev pub is_int : Notation → List ℕ → Bool
is_int Plain field = is_printed field
is_int (Decimal scale) field = is_some (decimal_of scale field)
is_int Date field = is_some (date_of field)

-- the kind of a column with this field alone, where these texts are null and ints are in this notation, if the field says anything of it
abbrev pub kind_alone : List (List ℕ) → Notation → List ℕ → Option Kind
kind_alone nulls notation field =
    if is_null nulls field then None
    else if is_int notation field then Some kind.Whole
    else if is_some (truth_of field) then Some kind.Truth
    else Some kind.Text

-- what two parts of a column say together: fields of two kinds are texts
abbrev pub joined : Option Kind → Option Kind → Option Kind
joined None k = k
joined (Some a) None = Some a
joined (Some kind.Whole) (Some kind.Whole) = Some kind.Whole
joined (Some kind.Truth) (Some kind.Truth) = Some kind.Truth
joined (Some a) (Some b) = Some kind.Text

abbrev pub joined_kind : List (List ℕ) → Notation → List (List ℕ) → Option Kind
joined_kind nulls notation [] = None
joined_kind nulls notation (field ∷ fields) = joined (kind_alone nulls notation field) (joined_kind nulls notation fields)

-- the kind of a column that is null throughout: a text, but of ints if a notation of ints was named for it
abbrev pub kind_of_nulls : Notation → Kind
kind_of_nulls Plain = kind.Text
kind_of_nulls (Decimal scale) = kind.Whole
kind_of_nulls Date = kind.Whole

-- the kind of a column with these fields
abbrev pub drafted_kind : List (List ℕ) → Notation → List (List ℕ) → Kind
drafted_kind nulls notation fields = elim (joined_kind nulls notation fields) [ None ↦ kind_of_nulls notation | Some k ↦ k ]

-- ---- counts

-- what numbers of ints, bools and other texts say of a column
abbrev pub kind_of_counts : ℕ → ℕ → ℕ → Option Kind
kind_of_counts zero zero zero = None
kind_of_counts (suc i) zero zero = Some kind.Whole
kind_of_counts zero (suc b) zero = Some kind.Truth
kind_of_counts i b t = Some kind.Text

-- a guess has counted these fields, the last first
abbrev pub HasCounted : List (List ℕ) → Guess → List (List ℕ) → Type 0
HasCounted nulls g fields = joined_kind nulls g.notation fields ≡ kind_of_counts g.ints g.bools g.texts.total

-- ---- sources

-- the fields at a place of the rows of a width
abbrev pub fields_at : ℕ → ℕ → List Record → List (List ℕ)
fields_at width place [] = []
fields_at width place (row ∷ rows) = if length row == width then get_or row place [] ∷ fields_at width place rows else fields_at width place rows

-- each column of a source, in the notation that is named for it, has counted its fields of these rows, the last first; a row of another width is left out
abbrev pub HasTaken : Reading → Source → List Record → Type 0
HasTaken reading source rows =
    (i : ℕ) (column : String Global × Guess) → slice_get source.columns.items i ≡ Some column →
    (column.1.notation ≡ notation_named reading.named (string_bytes column.0)) × HasCounted reading.nulls column.1 (fields_at (length source.columns.items) i rows)

-- whether a file begins with a header of these names
abbrev pub has_header : List Name → List Record → Bool
has_header names [] = false
has_header names (header ∷ rows) = pointwise same_name names header

-- a source is of these files, by their records: each begins with its names, and what follows is taken
pub record IsSourceOf (reading : Reading) (source : Source) (files : List (List Record)) : Type 0 where
  pub some_file : 0 < length files
  pub count : source.files ≡ min (length files) 65535
  pub headers : list_all (has_header (names_in source.columns.items)) files ≡ true
  pub taken : HasTaken reading source (reverse (flat_map (drop 1) files))

-- the first of these files, if there are any, has another header than a source
abbrev pub BeginsOther : Source → List (List Record) → Type 0
BeginsOther source [] = Unit {0}
BeginsOther source (file ∷ files) = has_header (names_in source.columns.items) file ≡ false

-- the sources of files in order: one for each run of files with one header
abbrev pub AreSourcesOf : Reading → List Source → List (List Record) → Type 0
AreSourcesOf reading [] files = files ≡ []
AreSourcesOf reading (source ∷ sources) files =
    (own rest : List (List Record)) × (files ≡ own ++ rest) × IsSourceOf reading source own × BeginsOther source rest × AreSourcesOf reading sources rest
