-- The int that a field is, and the text of an int, by the notation of a column; and the notation of a column, by its name.
use Rattle.std.specs.Prelude.{ℕ, ℤ, List, [], ◌∷◌, Option, find, option_map, if◌then◌else◌}
use Rattle.std.specs.Fmt.{signed_decimal}
use Rattle.fq_column.specs.Frame.{Field, Name, same_name}
use Rattle.fq_column.specs.declared.cells.Kind.TheVariants.{Whole, Text, Truth}
use Rattle.fq_notation.specs.Dates.{date_of, date_text}
use Rattle.fq_notation.specs.Decimals.{decimal_of, decimal_text}
use Rattle.fq_notation.specs.Digits.{whole_of}
use Rattle.fq_notation.specs.declared.notations.Notation.{Notation}
use Rattle.fq_notation.specs.declared.notations.Notation.TheVariants.{Plain, Decimal, Date}

abbrev pub int_under : Notation → List ℕ → Option ℤ
int_under Plain field = whole_of field
int_under (Decimal scale) field = decimal_of scale field
int_under Date field = date_of field

abbrev pub int_text : Notation → ℤ → List ℕ
int_text Plain z = signed_decimal z
int_text (Decimal scale) z = decimal_text scale z
int_text Date z = date_text z

-- a name, and the notation of the columns of ints of that name
abbrev pub Named : Type 0
Named = Name × Notation

-- the notation that stands under a name, the first if there are more, or else that of digits
abbrev pub notation_named : List Named → Name → Notation
notation_named [] name = Plain
notation_named (n ∷ named) name = if same_name n.0 name then n.1 else notation_named named name

-- the notation that an entry of this name gives, the first if there are more
abbrev pub notation_given : List Named → Name → Option Notation
notation_given named name = option_map (λ n. n.1) (find (λ n. same_name n.0 name) named)

-- the notation of a column: only one of ints has another than digits
abbrev pub notation_in : List Named → Field → Notation
notation_in named (name, Whole) = notation_named named name
notation_in named (name, Text) = Plain
notation_in named (name, Truth) = Plain
