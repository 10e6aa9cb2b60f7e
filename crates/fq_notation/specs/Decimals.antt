-- Numbers with a decimal point, as ints: the number times 10 to the scale, which is the number of places behind the point. Nothing is rounded.
-- The form is that of `decimal` in XML Schema (W3C, XSD 1.1 part 2): `(\+|-)?([0-9]+(\.[0-9]*)?|\.[0-9]+)`.
use Rattle.std.specs.Prelude.{◌&&◌, ◌==◌, ◌-◌, ◌*◌, ◌/◌, ◌^◌, Bool, ℕ, suc, ℤ, pos, negsuc, List, [], ◌∷◌, ◌++◌, Option, Some, None, if◌then◌else◌, take, drop, length}
use Rattle.std.specs.Char.{is_ascii_digit}
use Rattle.std.specs.Fmt.{decimal}
use Rattle.std.specs.List.{list_all, list_any}
use Rattle.std.specs.Str.{all_ascii_digits}
use Rattle.std.specs.Str.Parse.{digits_value, starts_with_minus, without_leading_sign}
use Rattle.fq_column.specs.Cell.{fits}
use Rattle.fq_notation.specs.Digits.{last_digits, signed}

-- what stands before the first point of a number, and the places behind it; a number without a point has none
abbrev pub before_point : List ℕ → List ℕ
before_point [] = []
before_point (c ∷ cs) = if c == 46 then [] else c ∷ before_point cs

abbrev pub places : List ℕ → List ℕ
places [] = []
places (c ∷ cs) = if c == 46 then cs else places cs

-- digits, and past the scale nothing but 0
abbrev pub are_places : ℕ → List ℕ → Bool
are_places scale ds = all_ascii_digits (take scale ds) && list_all (λ c. c == 48) (drop scale ds)

-- digits, with a point among them or not, and one digit at least
abbrev pub is_decimal : ℕ → List ℕ → Bool
is_decimal scale number = list_any is_ascii_digit number && all_ascii_digits (before_point number) && are_places scale (places number)

-- the number times 10 to the scale
abbrev pub scaled : ℕ → List ℕ → ℕ
scaled scale number = digits_value 10 (before_point number ++ take scale (places number)) * 10 ^ (scale - length (places number))

-- the int that a field is under a scale: an optional sign and a number, within 64 bits
abbrev pub decimal_of : ℕ → List ℕ → Option ℤ
decimal_of scale field =
    if is_decimal scale (without_leading_sign field) && fits (signed (starts_with_minus field) (scaled scale (without_leading_sign field)))
    then Some (signed (starts_with_minus field) (scaled scale (without_leading_sign field)))
    else None

-- a number with a point before its last places
abbrev pub scaled_text : ℕ → ℕ → List ℕ
scaled_text scale n = decimal (n / 10 ^ scale) ++ 46 ∷ last_digits scale n

-- the text of an int under a scale
abbrev pub decimal_text : ℕ → ℤ → List ℕ
decimal_text scale (pos n) = scaled_text scale n
decimal_text scale (negsuc n) = 45 ∷ scaled_text scale (suc n)
