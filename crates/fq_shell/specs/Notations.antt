-- The notations that arguments give to columns by name: `--decimal NAME=SCALE[,NAME=SCALE..]`, with a scale from 0 to 18, and
-- `--date NAME[,NAME..]`.
use Rattle.std.specs.Prelude.{ℕ, ◌==◌, ◌++◌, List, [], ◌∷◌, flat_map, length, map, nat_le, nat_lt, Option, Some, None, option_and_then, option_map, pos, negsuc, if◌then◌else◌}
use Rattle.std.specs.List.{after_first, before_first, position_or_len}
use Rattle.clap.specs.Words.{Text}
use Rattle.fq_notation.specs.Digits.{whole_of}
use Rattle.fq_notation.specs.Notation.{Named}
use Rattle.fq_notation.specs.declared.notations.Notation.{Notation}
use Rattle.fq_notation.specs.declared.notations.Notation.TheVariants.{Plain, Decimal, Date}

-- a byte before the first of some texts
abbrev pub put_first : ℕ → List Text → List Text
put_first b [] = (b ∷ []) ∷ []
put_first b (text ∷ texts) = (b ∷ text) ∷ texts

-- the texts between the commas of a list
abbrev pub entries_of : Text → List Text
entries_of [] = [] ∷ []
entries_of (b ∷ bs) = if b == 44 then [] ∷ entries_of bs else put_first b (entries_of bs)

-- the notation of a scale in digits: ints of no place are in digits themselves
abbrev pub notation_of : Text → Option Notation
notation_of text = elim (whole_of text) [
  | Some (pos n) ↦ if n == 0 then Some Plain else if nat_le n 18 then Some (Decimal n) else None
  | Some (negsuc n) ↦ None
  | None ↦ None
]

-- what stands before the first `=`, in the notation of the scale that stands after it
abbrev pub decimal_entry : Text → Option Named
decimal_entry entry =
    if nat_lt (position_or_len (λ b. b == 61) entry) (length entry)
    then option_map (λ notation. (before_first (λ b. b == 61) entry, notation)) (notation_of (after_first (λ b. b == 61) entry))
    else None

-- each of them, if none is wrong
abbrev pub decimal_entries : List Text → Option (List Named)
decimal_entries [] = Some []
decimal_entries (entry ∷ entries) = option_and_then (λ first. option_map (λ rest. first ∷ rest) (decimal_entries entries)) (decimal_entry entry)

abbrev pub date_entries : List Text → List Named
date_entries entries = map (λ name. (name, Date)) entries

-- the entries of lists of decimals, and then those of lists of dates
abbrev pub notations_in : List Text → List Text → Option (List Named)
notations_in decimals dates = option_map (λ named. named ++ date_entries (flat_map entries_of dates)) (decimal_entries (flat_map entries_of decimals))
