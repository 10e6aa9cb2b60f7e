-- Digits that follow those of a number, and the digits that a text begins with.
use Rattle.std.proofs.Common.{◌≡◌, ◌<◌, ◌≤◌, ◌^◌, ◌+◌, ◌-◌, ◌*◌, ◌∙◌, ℕ, zero, suc, Bool, Some, None, List, [], ◌∷◌, ◌++◌, true, false, ap, arith, refl, sym, inl, inr, length, slice_index_or}
use Rattle.std.specs.Prelude.{◌&&◌}
use Rattle.std.specs.Char.{digit_value, is_ascii_digit}
use Rattle.std.specs.Str.{all_ascii_digits}
use Rattle.std.specs.Str.Parse.{digits_value, digits_value_after, starts_with_minus, without_leading_sign}
use Rattle.std.proofs.lemmas.Bool.{and_from, cases_Bool, lt-ltb}
use Rattle.std.proofs.lemmas.Str.{digit_value_digit}
use Rattle.std.proofs.lemmas.Str.Parse.{digits_value_short, numerals_by_value, tells_all_ascii_digits, IsNumeralModel}
use Rattle.fq_column.specs.Cell.{fits}
use Rattle.fq_notation.specs.Digits.{after_digits, is_numeral, leading_digits, signed, whole_of}

-- more digits make no number less
pub grows : (n : ℕ) (ds : List ℕ) → n ≤ digits_value_after 10 n ds
grows n [] = omega arith
grows n (c ∷ cs) = omega (arith, grows (n * 10 + digit_value c) cs)

pub value-append : (n : ℕ) (xs ys : List ℕ) → digits_value_after 10 n (xs ++ ys) ≡ digits_value_after 10 (digits_value_after 10 n xs) ys
value-append n [] ys = refl
value-append n (c ∷ cs) ys = value-append (n * 10 + digit_value c) cs ys

pub all-append : (xs ys : List ℕ) → all_ascii_digits (xs ++ ys) ≡ (all_ascii_digits xs && all_ascii_digits ys)
all-append [] ys = refl
all-append (c ∷ cs) ys = elim (cases_Bool (is_ascii_digit c)) [
  | inl e ↦ rw e (all-append cs ys)
  | inr e ↦ rw e refl
]

pub leading-le : (n : ℕ) (xs : List ℕ) → digits_value_after 10 n (leading_digits xs) ≤ digits_value_after 10 n xs
leading-le n [] = omega arith
leading-le n (c ∷ cs) = elim (cases_Bool (is_ascii_digit c)) [
  | inl e ↦ rw e (leading-le (n * 10 + digit_value c) cs)
  | inr e ↦ rw e (grows n (c ∷ cs))
]

pub leading-all : (xs : List ℕ) → all_ascii_digits (leading_digits xs) ≡ true
leading-all [] = refl
leading-all (c ∷ cs) = elim (cases_Bool (is_ascii_digit c)) [
  | inl e ↦ rw e (and_from _ _ e (leading-all cs))
  | inr e ↦ rw e refl
]

-- nothing follows the digits of a text of digits alone
pub none-after : (xs : List ℕ) → after_digits xs ≡ [] → leading_digits xs ≡ xs
none-after [] e = refl
none-after (c ∷ cs) e = elim (cases_Bool (is_ascii_digit c)) [
  | inl d ↦ rw d (ap (λ ds. c ∷ ds) (none-after cs (rw d at e)))
  | inr d ↦ absurd (let no = rw d at e in cc no)
]

pub all-after : (xs : List ℕ) → all_ascii_digits xs ≡ true → after_digits xs ≡ []
all-after [] e = refl
all-after (c ∷ cs) e = elim (cases_Bool (is_ascii_digit c)) [
  | inl d ↦ rw d (all-after cs (rw d at e))
  | inr d ↦ absurd (let no = rw d at e in cc no)
]

-- what follows them begins with no digit
pub no-digit : (xs : List ℕ) → 0 < length (after_digits xs) → is_ascii_digit (slice_index_or (after_digits xs) 0 0) ≡ false
no-digit [] l = absurd (omega (arith, l))
no-digit (c ∷ cs) l = elim (cases_Bool (is_ascii_digit c)) [
  | inl d ↦ rw d (no-digit cs (rw d at l))
  | inr d ↦ rw d d
]

-- a number of 2^60 or more that gets one more digit
pub enough : (n : ℕ) (xs : List ℕ) → 0 < length xs → is_ascii_digit (slice_index_or xs 0 0) ≡ true → 2 ^ 60 ≤ n → 2 ^ 63 < digits_value_after 10 n (leading_digits xs)
enough n [] l d e = absurd (omega (arith, l))
enough n (c ∷ cs) l d e = rw d (omega (arith, grows (n * 10 + digit_value c) (leading_digits cs)))

-- ---- texts of digits alone

empty : (xs : List ℕ) → length xs ≡ 0 → xs ≡ []
empty [] l = refl
empty (c ∷ cs) l = absurd (omega (arith, l))

-- a text that ends with the digits that it begins with
pub alone : (n : ℕ) (ds rest : List ℕ) → rest ≡ after_digits ds → length rest ≡ 0 → (all_ascii_digits ds ≡ true) × (digits_value_after 10 n (leading_digits ds) ≡ digits_value_after 10 n ds)
alone n ds rest e l =
    let same = none-after ds (sym e ∙ empty rest l) in
    (ap all_ascii_digits (sym same) ∙ leading-all ds, ap (digits_value_after 10 n) same)

pub not-alone : (ds rest : List ℕ) → rest ≡ after_digits ds → (length rest ≡ 0 → ⊥) → all_ascii_digits ds ≡ true → ⊥
not-alone ds rest e n a = n (ap length (e ∙ all-after ds a))

-- ---- few digits

-- one more digit of a text is within what all of its digits write
pub within : (n : ℕ) (xs : List ℕ) → 0 < length xs → is_ascii_digit (slice_index_or xs 0 0) ≡ true → n * 10 + (slice_index_or xs 0 0 - 48) ≤ digits_value_after 10 n (leading_digits xs)
within n [] l d = absurd (omega (arith, l))
within n (c ∷ cs) l d =
    let range = (tells_all_ascii_digits.parts c [] (and_from _ _ d refl)).0 in
    rw d (omega (arith, grows (n * 10 + digit_value c) (leading_digits cs), digit_value_digit c range))

length-leading : (xs : List ℕ) → length (leading_digits xs) ≤ length xs
length-leading [] = omega arith
length-leading (c ∷ cs) = elim (cases_Bool (is_ascii_digit c)) [
  | inl d ↦ rw d (omega (arith, length-leading cs))
  | inr d ↦ rw d (omega arith)
]

own : IsNumeralModel (λ ds. all_ascii_digits ds ≡ true) (digits_value 10)
own = numerals_by_value (λ ds. all_ascii_digits ds ≡ true) tells_all_ascii_digits

-- the digits that few bytes begin with
pub few : (xs : List ℕ) → length xs ≤ 18 → digits_value_after 10 0 (leading_digits xs) < 10 ^ 18
few xs l = digits_value_short own (leading_digits xs) 18 (leading-all xs) (omega (arith, length-leading xs, l))

-- ---- whole numbers

-- a number below 10 ^ 18 with its sign
pub fits-few : (is_negative : Bool) (n : ℕ) → n < 10 ^ 18 → fits (signed is_negative n) ≡ true
fits-few true zero l = refl
fits-few true (suc k) l = lt-ltb k (2 ^ 63) (omega (arith, l))
fits-few false n l = lt-ltb n (2 ^ 63) (omega (arith, l))

-- a sign and digits that write a number below 10 ^ 18
pub few-whole : (field : List ℕ) (is_negative : Bool) (digits : List ℕ) (n : ℕ) → is_negative ≡ starts_with_minus field → digits ≡ without_leading_sign field
    → (length digits ≡ 0 → ⊥) → all_ascii_digits digits ≡ true → n ≡ digits_value 10 digits → n < 10 ^ 18 → Some (signed is_negative n) ≡ whole_of field
few-whole field is_negative digits n minus same some all value few =
    let v = fits-few (starts_with_minus field) n few in
    let numeral = numeral-of digits some all in
    rw (minus, sym (value ∙ ap (digits_value 10) same), rw same at numeral) (rw v refl)
  where
    numeral-of : (ds : List ℕ) → (length ds ≡ 0 → ⊥) → all_ascii_digits ds ≡ true → is_numeral ds ≡ true
    numeral-of [] some all = absurd (some refl)
    numeral-of (c ∷ cs) some all = all

-- a text that does not end with its digits
pub no-whole : (field digits : List ℕ) → digits ≡ without_leading_sign field → (all_ascii_digits digits ≡ true → ⊥) → None ≡ whole_of field
no-whole field digits same other = elim (cases_Bool (is_numeral (without_leading_sign field))) [
  | inl e ↦ absurd (other (ap all_ascii_digits same ∙ digits-of (without_leading_sign field) e))
  | inr e ↦ rw e refl
]
  where
    digits-of : (ds : List ℕ) → is_numeral ds ≡ true → all_ascii_digits ds ≡ true
    digits-of [] e = refl
    digits-of (c ∷ cs) e = e
