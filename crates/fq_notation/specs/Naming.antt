-- What the ints of a column stand for, and the notation of a column that a step makes: by what its ints stand for, and by what its name says.
use Rattle.std.specs.Prelude.{◌++◌, ◌&&◌, ◌||◌, ◌==◌, Bool, true, false, not, ℕ, List, [], ◌∷◌, Option, Some, None, Result, Ok, Err, if◌then◌else◌}
use Rattle.std.specs.Result.{result_map_both}
use Rattle.fq_column.specs.declared.cells.Kind.{Kind}
use Rattle.fq_column.specs.declared.cells.Kind.TheVariants as kind
use Rattle.fq_column.specs.Frame.{Fields, Name}
use Rattle.fq_column.specs.Schema.{kind_named}
use Rattle.fq_notation.specs.Notation.{Named, notation_in, notation_named}
use Rattle.fq_notation.specs.Scales.{ScaleRange, only, is_possible}
use Rattle.fq_notation.specs.declared.followed.Followed.{Followed}
use Rattle.fq_notation.specs.declared.followed.Followed.TheVariants.{Numbers, Days, Others}
use Rattle.fq_notation.specs.declared.naming.Made.{Made}
use Rattle.fq_notation.specs.declared.naming.Said.{Said}
use Rattle.fq_notation.specs.declared.naming.Said.TheVariants as says
use Rattle.fq_notation.specs.declared.naming.StepUnnoted.{StepUnnoted}
use Rattle.fq_notation.specs.declared.naming.Unnoted.{Unnoted}
use Rattle.fq_notation.specs.declared.naming.Unnoted.TheVariants.{Differ, Unnamed}
use Rattle.fq_notation.specs.declared.notations.Notation.{Notation}
use Rattle.fq_notation.specs.declared.notations.Notation.TheVariants.{Plain, Decimal, Date}

-- ---- what ints stand for

abbrev pub of_column : Kind → Notation → Followed
of_column kind.Whole Plain = Numbers (only 0)
of_column kind.Whole (Decimal scale) = Numbers (only scale)
of_column kind.Whole Date = Days
of_column kind.Text n = Others
of_column kind.Truth n = Others

abbrev pub scales_in : Followed → Option ScaleRange
scales_in (Numbers scales) = Some scales
scales_in Days = None
scales_in Others = None

-- below, the columns, and the notations of their ints under their names
module _ (fields : Fields) (named : List Named) where
  abbrev pub column_followed : Name → Followed
  column_followed name = elim (kind_named fields name) [ Ok k ↦ of_column k (notation_named named name) | Err fault ↦ Others ]

  -- the notation of a named column of any kind
  abbrev pub notation_at : Name → Notation
  notation_at name = elim (kind_named fields name) [ Ok k ↦ notation_in named (name, k) | Err fault ↦ Plain ]

-- whether the ints of a column are in digits, or, if days count too, are days
abbrev pub is_digits : Bool → Followed → Bool
is_digits days (Numbers scales) = is_possible scales 0
is_digits days Days = days
is_digits days Others = true

-- ---- what a name says

-- the notation of numbers of a scale, and back
abbrev pub notation_of : ℕ → Notation
notation_of n = if n == 0 then Plain else Decimal n

-- what is said of ints that no column gives
abbrev pub notation_said : Said → Notation
notation_said says.Nothing = Plain
notation_said says.Digits = Plain
notation_said (says.InFiles n) = n
notation_said (says.Declared n) = n
notation_said (says.MadeAgain n) = n

-- why an item whose name says this has no notation
abbrev pub unnoted : Said → Unnoted
unnoted says.Nothing = Unnamed
unnoted says.Digits = Unnamed
unnoted (says.InFiles n) = Differ
unnoted (says.Declared n) = Differ
unnoted (says.MadeAgain n) = Differ

abbrev pub is_days : Notation → Bool
is_days Plain = false
is_days (Decimal scale) = false
is_days Date = true

abbrev pub is_decimal : Notation → Bool
is_decimal Plain = false
is_decimal (Decimal scale) = true
is_decimal Date = false

-- whether numbers may have a notation of scales
abbrev pub may_have : ScaleRange → Notation → Bool
may_have scales Plain = is_possible scales 0
may_have scales (Decimal scale) = is_possible scales scale
may_have scales Date = false

-- the notation of days
abbrev pub days_noted : Said → Result Notation Unnoted
days_noted says.Nothing = Ok Date
days_noted says.Digits = Ok Date
days_noted (says.InFiles n) = Ok Date
days_noted (says.Declared n) = if is_days n then Ok Date else Err Differ
days_noted (says.MadeAgain n) = Ok Date

-- numbers that are digits, whatever else they may be
abbrev pub are_read_as_digits : ScaleRange → Bool
are_read_as_digits scales = elim scales.read [ Some n ↦ n == 0 | None ↦ is_possible scales 0 ]

-- what is read, or digits that are made of digits and days alone
abbrev pub read_noted : Bool → ScaleRange → Option Notation
read_noted of_digits scales = elim scales.read [ Some n ↦ Some (notation_of n) | None ↦ if of_digits && is_possible scales 0 then Some Plain else None ]

-- or else this, if it is possible
abbrev pub read_or : Option Notation → Bool → Notation → Option Notation
read_or (Some m) possible n = Some m
read_or None possible n = if possible then Some n else None

abbrev pub or_unnoted : Unnoted → Option Notation → Result Notation Unnoted
or_unnoted why (Some n) = Ok n
or_unnoted why None = Err why

-- whether numbers are read as digits, or else are made of digits and days alone
abbrev pub reads_digits : Made → ScaleRange → Bool
reads_digits made scales = elim scales.read [ Some n ↦ n == 0 | None ↦ made.of_digits && is_possible scales 0 ]

-- whether they may be days of a name that says so
abbrev pub may_be_days : Made → ScaleRange → Bool
may_be_days made scales = reads_digits made scales && not made.remainder

-- days, if they may be, or else what is read
abbrev pub days_or_read : Made → ScaleRange → Result Notation Unnoted
days_or_read made scales = if may_be_days made scales then Ok Date else or_unnoted Differ (read_noted made.of_digits scales)

-- the notation of numbers under a name of a source's ints, under one that an argument gives alone, and under one that a later step makes again
abbrev pub in_files_noted : Notation → Made → ScaleRange → Result Notation Unnoted
in_files_noted n made scales =
    if is_days n then days_or_read made scales
    else if is_decimal n && reads_digits made scales then Err Differ
    else or_unnoted Differ (read_or (read_noted made.of_digits scales) (made.multiplied && may_have scales n) n)

abbrev pub declared_noted : Notation → Made → ScaleRange → Result Notation Unnoted
declared_noted n made scales =
    if is_days n then (if may_be_days made scales then Ok Date else Err Differ)
    else if may_have scales n || (made.digits && are_read_as_digits scales) then Ok n
    else Err Differ

abbrev pub made_again_noted : Notation → Made → ScaleRange → Result Notation Unnoted
made_again_noted n made scales = elim scales.read [
  | Some m ↦ Ok (notation_of m)
  | None ↦ if (if is_days n then may_be_days made scales else may_have scales n) then Ok n else or_unnoted Differ (read_noted made.of_digits scales)
]

-- the notation of numbers
abbrev pub numbers_noted : Said → Made → ScaleRange → Result Notation Unnoted
numbers_noted says.Nothing made scales = or_unnoted Unnamed (read_noted made.of_digits scales)
numbers_noted says.Digits made scales = or_unnoted Unnamed (read_or (read_noted made.of_digits scales) (made.multiplied && is_possible scales 0) Plain)
numbers_noted (says.InFiles n) made scales = in_files_noted n made scales
numbers_noted (says.Declared n) made scales = declared_noted n made scales
numbers_noted (says.MadeAgain n) made scales = made_again_noted n made scales

-- ---- columns that are made of others' columns

-- the notation of what has the ints of a column, as a sum or a greatest value of it; a sum of days stands for nothing
abbrev pub column_noted : Bool → Said → Followed → Result Notation Unnoted
column_noted sums said (Numbers scales) = numbers_noted said (record { digits = is_possible scales 0; of_digits = is_possible scales 0; multiplied = false; remainder = true }) scales
column_noted sums said Days = if sums then Err Differ else days_noted said
column_noted sums said Others = Ok Plain

-- the notation of a number of rows or of values: digits, whatever its name, unless that says another and is of no source
abbrev pub count_noted : Said → Result Notation Unnoted
count_noted says.Nothing = Ok Plain
count_noted says.Digits = Ok Plain
count_noted (says.InFiles n) = Ok Plain
count_noted (says.Declared Plain) = Ok Plain
count_noted (says.Declared (Decimal scale)) = Err Differ
count_noted (says.Declared Date) = Err Differ
count_noted (says.MadeAgain n) = Ok Plain

-- whether two notations are one
abbrev pub same_notation : Notation → Notation → Bool
same_notation Plain Plain = true
same_notation Plain (Decimal b) = false
same_notation Plain Date = false
same_notation (Decimal a) Plain = false
same_notation (Decimal a) (Decimal b) = a == b
same_notation (Decimal a) Date = false
same_notation Date Plain = false
same_notation Date (Decimal b) = false
same_notation Date Date = true

-- the notation of a column that keeps its ints under a new name
abbrev pub renamed_noted : Said → Notation → Result Notation Unnoted
renamed_noted says.Nothing m = Ok m
renamed_noted says.Digits m = Ok m
renamed_noted (says.InFiles n) m = Ok m
renamed_noted (says.Declared n) m = if same_notation n m then Ok m else Err Differ
renamed_noted (says.MadeAgain n) m = Ok m

-- ---- after a step

-- these names before others, if there are any
abbrev pub before_all : List Named → Result (List Named) StepUnnoted → Result (List Named) StepUnnoted
before_all first others = result_map_both (λ rest. first ++ rest) (λ why. why) others

-- a name with its notation, before others; or why it has none
abbrev pub noted_before : Name → (Unnoted → StepUnnoted) → Result Notation Unnoted → Result (List Named) StepUnnoted → Result (List Named) StepUnnoted
noted_before name place (Ok notation) others = before_all ((name, notation) ∷ []) others
noted_before name place (Err why) others = Err (place why)
