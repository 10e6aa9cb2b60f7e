-- Digits and signs of texts.
use Rattle.std.specs.Prelude.{◌&&◌, ◌/◌, ◌%◌, ◌+◌, Bool, false, ℕ, zero, suc, ℤ, pos, neg_ℤ, List, [], ◌∷◌, ◌++◌, Option, Some, None, if◌then◌else◌}
use Rattle.std.specs.Char.{is_ascii_digit}
use Rattle.std.specs.Str.{all_ascii_digits}
use Rattle.std.specs.Str.Parse.{signed_digits_value, without_leading_sign}
use Rattle.fq_column.specs.Cell.{fits}

-- one decimal digit or more
abbrev pub is_numeral : List ℕ → Bool
is_numeral [] = false
is_numeral (c ∷ cs) = all_ascii_digits (c ∷ cs)

-- the digits that a text begins with, and what follows them
abbrev pub leading_digits : List ℕ → List ℕ
leading_digits [] = []
leading_digits (c ∷ cs) = if is_ascii_digit c then c ∷ leading_digits cs else []

abbrev pub after_digits : List ℕ → List ℕ
after_digits [] = []
after_digits (c ∷ cs) = if is_ascii_digit c then after_digits cs else c ∷ cs

-- a number, negative or not
abbrev pub signed : Bool → ℕ → ℤ
signed is_negative n = if is_negative then neg_ℤ (pos n) else pos n

-- the whole number that a field spells: an optional sign and digits, within 64 bits, as Rust's `i64::from_str` reads one
abbrev pub whole_of : List ℕ → Option ℤ
whole_of field =
    if is_numeral (without_leading_sign field) && fits (signed_digits_value 10 field) then Some (signed_digits_value 10 field) else None

-- the last digits of a number, as many as these, with zeros before a number that has fewer
abbrev pub last_digits : ℕ → ℕ → List ℕ
last_digits zero n = []
last_digits (suc k) n = last_digits k (n / 10) ++ (48 + n % 10) ∷ []
