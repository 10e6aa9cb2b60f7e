-- Days of the Gregorian calendar, as ISO 8601 writes them, as ints: year * 10000 + month * 100 + day. `days_in_month` is that of the crate `jiff`.
use Rattle.std.specs.Prelude.{◌&&◌, ◌==◌, ◌+◌, ◌*◌, ◌/◌, ◌%◌, Bool, false, ℕ, ℤ, pos, negsuc, List, ◌∷◌, ◌++◌, Option, Some, None, if◌then◌else◌, take, length, nat_le, slice_index, slice_range}
use Rattle.std.specs.Fmt.{signed_decimal}
use Rattle.std.specs.Str.{all_ascii_digits}
use Rattle.std.specs.Str.Parse.{digits_value}
use Rattle.jiff_core.specs.Calendar.{days_in_month}
use Rattle.fq_notation.specs.Digits.{last_digits}

-- a day of the years 1 to 9999
abbrev pub is_day : ℕ → ℕ → ℕ → Bool
is_day year month day =
    (nat_le 1 year && nat_le year 9999) && (nat_le 1 month && nat_le month 12) && (nat_le 1 day && nat_le day (days_in_month (pos year) month))

-- the digits of the year, of the month and of the day in `YYYY-MM-DD`
abbrev pub year_digits : List ℕ → List ℕ
year_digits field = take 4 field

abbrev pub month_digits : List ℕ → List ℕ
month_digits field = slice_range field 5 7

abbrev pub day_digits : List ℕ → List ℕ
day_digits field = slice_range field 8 10

-- dashes after the year and after the month
abbrev pub has_dashes : List ℕ → Bool
has_dashes field = (slice_index field 4 == 45) && (slice_index field 7 == 45)

-- the form `YYYY-MM-DD`
abbrev pub has_date_form : List ℕ → Bool
has_date_form field =
    ((length field == 10) && has_dashes field)
    && (all_ascii_digits (year_digits field) && all_ascii_digits (month_digits field) && all_ascii_digits (day_digits field))

-- the int of a day
abbrev pub day_number : ℕ → ℕ → ℕ → ℕ
day_number year month day = year * 10000 + month * 100 + day

-- the int that a field is as a date
abbrev pub date_of : List ℕ → Option ℤ
date_of field =
    if has_date_form field && is_day (digits_value 10 (year_digits field)) (digits_value 10 (month_digits field)) (digits_value 10 (day_digits field))
    then Some (pos (day_number (digits_value 10 (year_digits field)) (digits_value 10 (month_digits field)) (digits_value 10 (day_digits field))))
    else None

-- whether an int is that of a day
abbrev pub is_date : ℤ → Bool
is_date (pos n) = is_day (n / 10000) (n / 100 % 100) (n % 100)
is_date (negsuc n) = false

-- `YYYY-MM-DD`, of a day's int
abbrev pub iso_date : ℕ → List ℕ
iso_date n = last_digits 4 (n / 10000) ++ 45 ∷ last_digits 2 (n / 100) ++ 45 ∷ last_digits 2 n

-- the text of an int as a date; one that is no day's is written in digits
abbrev pub date_text : ℤ → List ℕ
date_text (pos n) = if is_date (pos n) then iso_date n else signed_decimal (pos n)
date_text (negsuc n) = signed_decimal (negsuc n)
