-- Fields that are no dates, and how large the parts of one are.
use Rattle.std.proofs.Common.{◌≡◌, ◌<◌, ◌^◌, ℕ, pos, List, true, Some, None, cond, ap, arith, sym, take, drop}
use Rattle.std.specs.Str.{all_ascii_digits}
use Rattle.std.specs.Str.Parse.{digits_value}
use Rattle.std.proofs.lemmas.Bool.{and_left, and_parts, false_from_ne_true}
use Rattle.std.proofs.lemmas.List.{length-take}
use Rattle.std.proofs.lemmas.Str.Parse.{digits_value_short, numerals_by_value, tells_all_ascii_digits, IsNumeralModel}
use Rattle.fq_notation.specs.Dates.{date_of, day_digits, day_number, has_date_form, is_day, month_digits, year_digits}

own : IsNumeralModel (λ ds. all_ascii_digits ds ≡ true) (digits_value 10)
own = numerals_by_value (λ ds. all_ascii_digits ds ≡ true) tells_all_ascii_digits

missed : (field : List ℕ) → (has_date_form field ≡ true → ⊥) → None ≡ date_of field
missed field h =
    sym (ap (λ b. cond b (Some (pos (day_number (digits_value 10 (year_digits field)) (digits_value 10 (month_digits field)) (digits_value 10 (day_digits field))))) None)
    (and_left (has_date_form field) (is_day (digits_value 10 (year_digits field)) (digits_value 10 (month_digits field)) (digits_value 10 (day_digits field))) (false_from_ne_true (has_date_form field) h)))

-- two digits, and four, are no large number
pub two-digits : (i : ℕ) (field : List ℕ) → all_ascii_digits (take 2 (drop i field)) ≡ true → digits_value 10 (take 2 (drop i field)) < 100
two-digits i field a = digits_value_short own (take 2 (drop i field)) 2 a (omega (arith, length-take 2 (drop i field)))

four-digits : (field : List ℕ) → all_ascii_digits (take 4 field) ≡ true → digits_value 10 (take 4 field) < 10000
four-digits field a = digits_value_short own (take 4 field) 4 a (omega (arith, length-take 4 field))

pub no-year : (field : List ℕ) → (all_ascii_digits (take 4 field) ≡ true → 2 ^ 63 < digits_value 10 (take 4 field)) → None ≡ date_of field
no-year field h = missed field (λ e. let a : all_ascii_digits (take 4 field) ≡ true = (and_parts _ _ (and_parts _ _ (and_parts _ _ e).1).0).0 in omega (arith, h a, four-digits field a))

pub no-month : (field : List ℕ) → (all_ascii_digits (take 2 (drop 5 field)) ≡ true → 2 ^ 63 < digits_value 10 (take 2 (drop 5 field))) → None ≡ date_of field
no-month field h = missed field (λ e. let a : all_ascii_digits (take 2 (drop 5 field)) ≡ true = (and_parts _ _ (and_parts _ _ (and_parts _ _ e).1).0).1 in omega (arith, h a, two-digits 5 field a))

pub no-day : (field : List ℕ) → (all_ascii_digits (take 2 (drop 8 field)) ≡ true → 2 ^ 63 < digits_value 10 (take 2 (drop 8 field))) → None ≡ date_of field
no-day field h = missed field (λ e. let a : all_ascii_digits (take 2 (drop 8 field)) ≡ true = (and_parts _ _ (and_parts _ _ e).1).1 in omega (arith, h a, two-digits 8 field a))
