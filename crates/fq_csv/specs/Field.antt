-- The cell that a field is, by the kind of its column and the notation of its ints. A truth value is read as Polars writes one but in any
-- letter case; texts that stand for null are those that Polars calls `null_values`.
use Rattle.std.specs.Prelude.{Bool, true, false, ℕ, List, [], ◌∷◌, Option, Some, None, option_map, map, if◌then◌else◌}
use Rattle.std.specs.List.{list_any}
use Rattle.std.specs.Str.{is_utf8, bytes_eq}
use Rattle.std.specs.Char.{to_ascii_lowercase}
use Rattle.std.specs.Str.Parse.{true_text, false_text}
use Rattle.fq_column.specs.declared.cells.Kind.{Kind}
use Rattle.fq_column.specs.declared.cells.Kind.TheVariants as kind
use Rattle.fq_column.specs.declared.cells.Cell.{Cell}
use Rattle.fq_column.specs.declared.cells.Cell.TheVariants.{Null, Whole, Text, Truth}
use Rattle.fq_notation.specs.Notation.{int_under}
use Rattle.fq_notation.specs.declared.notations.Notation.{Notation}

-- the truth value that a field names, in any ASCII letter case
abbrev pub truth_of : List ℕ → Option Bool
truth_of field =
    if bytes_eq (map to_ascii_lowercase field) true_text then Some true
    else if bytes_eq (map to_ascii_lowercase field) false_text then Some false
    else None

-- the text that a field is, if its bytes are UTF-8
abbrev pub text_of : List ℕ → Option (List ℕ)
text_of field = if is_utf8 field then Some field else None

-- the cell of a column's kind that a field is, if it is one, in a notation of ints; an empty field is null
abbrev pub cell_of : Kind → Notation → List ℕ → Option Cell
cell_of k n [] = Some Null
cell_of kind.Whole n (c ∷ cs) = option_map Whole (int_under n (c ∷ cs))
cell_of kind.Text n (c ∷ cs) = option_map Text (text_of (c ∷ cs))
cell_of kind.Truth n (c ∷ cs) = option_map Truth (truth_of (c ∷ cs))

-- whether a field is one of these texts, byte for byte
abbrev pub is_one_of : List (List ℕ) → List ℕ → Bool
is_one_of texts field = list_any (λ text. bytes_eq text field) texts

-- the same, in a file where these texts are read as null, whatever the kind of their column
abbrev pub cell_under : List (List ℕ) → Kind → Notation → List ℕ → Option Cell
cell_under nulls k n field = if is_one_of nulls field then Some Null else cell_of k n field

-- whether a field is null in a column of any kind
abbrev pub is_null : List (List ℕ) → List ℕ → Bool
is_null nulls [] = true
is_null nulls (c ∷ cs) = is_one_of nulls (c ∷ cs)
