-- What is printed, read again.
use Rattle.std.proofs.Common.{◌≡◌, ◌<◌, ◌≤◌, ◌^◌, ◌+◌, ◌-◌, ◌*◌, ◌/◌, ◌%◌, ◌∙◌, ℕ, ℤ, pos, negsuc, suc, List, [], ◌∷◌, ◌++◌, Bool, true, false, Some, None, cond, ap, arith, refl, sym, inl, inr, length, take, drop}
use mathlib.Core.List.{append-nil}
use native.Mathlib.Nat.{div-le_self, mul-one}
use Rattle.std.specs.Prelude.{◌&&◌, ◌==◌}
use Rattle.std.specs.Char.{is_ascii_digit}
use Rattle.std.specs.Fmt.{decimal, signed_decimal}
use Rattle.std.specs.List.{list_all, list_any}
use Rattle.std.specs.Str.{all_ascii_digits}
use Rattle.std.specs.Str.Parse.{digits_value, digits_value_after, starts_with_minus, without_leading_sign}
use Rattle.std.proofs.lemmas.Bool.{and_from, and_parts, leb-true, ltb-true, or_left}
use Rattle.std.proofs.lemmas.Bool.Decides.{eqb_tells}
use Rattle.std.proofs.lemmas.Fmt.{decimal_nonempty, digits_decimal, digits_value-decimal}
use Rattle.std.proofs.lemmas.List.{drop_all, take_all}
use Rattle.std.proofs.lemmas.Str.Parse.{numerals_by_value, tells_all_ascii_digits, IsNumeralModel}
use Rattle.fq_column.specs.Cell.{fits}
use Rattle.fq_notation.specs.Digits.{is_numeral, last_digits, signed, whole_of}
use Rattle.fq_notation.specs.Dates.{date_of, date_text, day_digits, day_number, has_date_form, is_date, is_day, iso_date, month_digits, year_digits}
use Rattle.fq_notation.specs.Decimals.{are_places, before_point, decimal_of, decimal_text, is_decimal, places, scaled, scaled_text}
use Rattle.fq_notation.proofs.DigitLemmas.{value-append}
use Rattle.fq_notation.proofs.DecimalLemmas.{digit-no-point}
use Rattle.fq_notation.proofs.PrintLemmas.{last-digits, last-value, length-last}

own : IsNumeralModel (λ ds. all_ascii_digits ds ≡ true) (digits_value 10)
own = numerals_by_value (λ ds. all_ascii_digits ds ≡ true) tells_all_ascii_digits

-- digits before a point, and what follows it
behind : (ds cs : List ℕ) → all_ascii_digits ds ≡ true → (before_point (ds ++ 46 ∷ cs) ≡ ds) × (places (ds ++ 46 ∷ cs) ≡ cs)
behind [] cs e = (refl, refl)
behind (c ∷ ds) cs e =
    let p = and_parts (is_ascii_digit c) (all_ascii_digits ds) e in
    let n = digit-no-point c p.0 in
    let more = behind ds cs p.1 in
    (rw n (ap (λ xs. c ∷ xs) more.0), rw n more.1)

-- a text that begins with a digit has no sign
no-sign : (ds cs : List ℕ) → 0 < length ds → all_ascii_digits ds ≡ true → (starts_with_minus (ds ++ cs) ≡ false) × (without_leading_sign (ds ++ cs) ≡ ds ++ cs)
no-sign [] cs l e = absurd (omega (arith, l))
no-sign (c ∷ ds) cs l e =
    let d = (and_parts (is_ascii_digit c) (all_ascii_digits ds) e).0 in
    elim (eqb_tells c 45) [
      | inl m ↦ absurd (let no = rw m.1 at d in cc no)
      | inr m ↦ elim (eqb_tells c 43) [
        | inl p ↦ absurd (let no = rw p.1 at d in cc no)
        | inr p ↦ (m.0, rw (m.0, p.0) refl)
      ]
    ]

-- ---- digits alone

whole-made : (field number : List ℕ) (negative : Bool) (n : ℕ) → starts_with_minus field ≡ negative → without_leading_sign field ≡ number → is_numeral number ≡ true → digits_value 10 number ≡ n
    → fits (signed negative n) ≡ true → whole_of field ≡ Some (signed negative n)
whole-made field number negative n a b c d e =
    ap (λ xs. cond (is_numeral xs && fits (signed (starts_with_minus field) (digits_value 10 xs))) (Some (signed (starts_with_minus field) (digits_value 10 xs))) None) b
    ∙ ap (λ m. cond (is_numeral number && fits (signed m (digits_value 10 number))) (Some (signed m (digits_value 10 number))) None) a
    ∙ ap (λ k. cond (is_numeral number && fits (signed negative k)) (Some (signed negative k)) None) d
    ∙ ap (λ t. cond t (Some (signed negative n)) None) (and_from _ _ c e)

numeral : (ds : List ℕ) → 0 < length ds → all_ascii_digits ds ≡ true → is_numeral ds ≡ true
numeral [] l e = absurd (omega (arith, l))
numeral (c ∷ cs) l e = e

pub plain-back : (z : ℤ) → fits z ≡ true → whole_of (signed_decimal z) ≡ Some z
plain-back (pos n) e =
    let b : n < 2 ^ 64 = omega (arith, ltb-true n (2 ^ 63) e) in
    let some = decimal_nonempty n b in
    let all = digits_decimal own n b in
    let sign = no-sign (decimal n) [] some all in
    let same = append-nil (decimal n) in
    whole-made (decimal n) (decimal n) false n (ap starts_with_minus (sym same) ∙ sign.0) (ap without_leading_sign (sym same) ∙ sign.1 ∙ same) (numeral (decimal n) some all) (digits_value-decimal own n b) e
plain-back (negsuc k) e =
    let b : suc k < 2 ^ 64 = omega (arith, ltb-true k (2 ^ 63) e) in
    whole-made (45 ∷ decimal (suc k)) (decimal (suc k)) true (suc k) refl refl (numeral (decimal (suc k)) (decimal_nonempty (suc k) b) (digits_decimal own (suc k) b)) (digits_value-decimal own (suc k) b) e

-- ---- decimals

-- a digit among others
some-digit : (ds cs : List ℕ) → 0 < length ds → all_ascii_digits ds ≡ true → list_any is_ascii_digit (ds ++ cs) ≡ true
some-digit [] cs l e = absurd (omega (arith, l))
some-digit (c ∷ ds) cs l e = or_left (is_ascii_digit c) (list_any is_ascii_digit (ds ++ cs)) (and_parts (is_ascii_digit c) (all_ascii_digits ds) e).0

-- digits with a point before the last of them
read-back : (s n : ℕ) (ds ls : List ℕ) → all_ascii_digits ds ≡ true → 0 < length ds → all_ascii_digits ls ≡ true → length ls ≡ s → digits_value_after 10 (digits_value 10 ds) ls ≡ n
    → (is_decimal s (ds ++ 46 ∷ ls) ≡ true) × (scaled s (ds ++ 46 ∷ ls) ≡ n)
read-back s n ds ls a some b len v = given (ds ++ 46 ∷ ls) (some-digit ds (46 ∷ ls) some a) (behind ds ls a).0 (behind ds ls a).1
  where
    given : (number : List ℕ) → list_any is_ascii_digit number ≡ true → before_point number ≡ ds → places number ≡ ls → (is_decimal s number ≡ true) × (scaled s number ≡ n)
    given number d f g =
        let past : drop s ls ≡ [] = drop_all s ls (omega (arith, len)) in
        let kept : take s ls ≡ ls = take_all s ls (omega (arith, len)) in
        let none : s - length ls ≡ 0 = omega (arith, len) in (
          and_from _ _ (and_from _ _ d (ap all_ascii_digits f ∙ a))
              (ap (are_places s) g ∙ and_from _ _ (ap all_ascii_digits kept ∙ b) (ap (list_all (λ c. c == 48)) past)),
          ap (λ bs. digits_value 10 (bs ++ take s (places number)) * 10 ^ (s - length (places number))) f
              ∙ ap (λ ps. digits_value 10 (ds ++ take s ps) * 10 ^ (s - length ps)) g
              ∙ ap (λ ps. digits_value 10 (ds ++ ps) * 10 ^ (s - length ls)) kept
              ∙ ap (λ m. digits_value 10 (ds ++ ls) * 10 ^ m) none ∙ mul-one (digits_value 10 (ds ++ ls)) ∙ value-append 0 ds ls ∙ v,
        )

made : (s : ℕ) (field number : List ℕ) (negative : Bool) (n : ℕ) → starts_with_minus field ≡ negative → without_leading_sign field ≡ number → is_decimal s number ≡ true → scaled s number ≡ n
    → fits (signed negative n) ≡ true → decimal_of s field ≡ Some (signed negative n)
made s field number negative n a b c d e =
    ap (λ xs. cond (is_decimal s xs && fits (signed (starts_with_minus field) (scaled s xs))) (Some (signed (starts_with_minus field) (scaled s xs))) None) b
    ∙ ap (λ m. cond (is_decimal s number && fits (signed m (scaled s number))) (Some (signed m (scaled s number))) None) a
    ∙ ap (λ k. cond (is_decimal s number && fits (signed negative k)) (Some (signed negative k)) None) d
    ∙ ap (λ t. cond t (Some (signed negative n)) None) (and_from _ _ c e)

-- the text of a number, read
text-back : (s n : ℕ) → n < 2 ^ 64 → (is_decimal s (scaled_text s n) ≡ true) × (scaled s (scaled_text s n) ≡ n)
text-back s n b =
    let front : n / 10 ^ s < 2 ^ 64 = omega (arith, div-le_self n (10 ^ s), b) in
    read-back s n (decimal (n / 10 ^ s)) (last_digits s n) (digits_decimal own (n / 10 ^ s) front) (decimal_nonempty (n / 10 ^ s) front) (last-digits s n) (length-last s n)
    (last-value s (digits_value 10 (decimal (n / 10 ^ s))) n (digits_value-decimal own (n / 10 ^ s) front))

pub decimal-back : (s : ℕ) (z : ℤ) → fits z ≡ true → decimal_of s (decimal_text s z) ≡ Some z
decimal-back s (pos n) e =
    let b : n < 2 ^ 64 = omega (arith, ltb-true n (2 ^ 63) e) in
    let front : n / 10 ^ s < 2 ^ 64 = omega (arith, div-le_self n (10 ^ s), b) in
    let sign = no-sign (decimal (n / 10 ^ s)) (46 ∷ last_digits s n) (decimal_nonempty (n / 10 ^ s) front) (digits_decimal own (n / 10 ^ s) front) in
    made s (scaled_text s n) (scaled_text s n) false n sign.0 sign.1 (text-back s n b).0 (text-back s n b).1 e
decimal-back s (negsuc k) e =
    let b : suc k < 2 ^ 64 = omega (arith, ltb-true k (2 ^ 63) e) in
    made s (45 ∷ scaled_text s (suc k)) (scaled_text s (suc k)) true (suc k) refl refl (text-back s (suc k) b).0 (text-back s (suc k) b).1 e

-- ---- dates

two-digits : (m : ℕ) → digits_value 10 (last_digits 2 m) ≡ m % 100
two-digits m =
    let same : last_digits 2 m ≡ last_digits 2 (m % 100) = pair (m / 10 % 10) (m % 100 / 10 % 10) (m % 10) (m % 100 % 10) (omega arith) (omega arith) in
    ap (digits_value 10) same ∙ last-value 2 0 (m % 100) (omega arith)
  where
    pair : (a b c d : ℕ) → a ≡ b → c ≡ d → (48 + a) ∷ (48 + c) ∷ [] ≡ (48 + b) ∷ (48 + d) ∷ []
    pair a b c d e f = ap (λ x. (48 + x) ∷ (48 + c) ∷ []) e ∙ ap (λ x. (48 + b) ∷ (48 + x) ∷ []) f

dated : (field : List ℕ) (y m d : ℕ) → has_date_form field ≡ true → digits_value 10 (year_digits field) ≡ y → digits_value 10 (month_digits field) ≡ m → digits_value 10 (day_digits field) ≡ d
    → is_day y m d ≡ true → date_of field ≡ Some (pos (day_number y m d))
dated field y m d form a b c e = go (digits_value 10 (year_digits field)) (digits_value 10 (month_digits field)) (digits_value 10 (day_digits field)) a b c
  where
    go : (y' m' d' : ℕ) → y' ≡ y → m' ≡ m → d' ≡ d → cond (has_date_form field && is_day y' m' d') (Some (pos (day_number y' m' d'))) None ≡ Some (pos (day_number y m d))
    go y' m' d' a b c =
        ap (λ k. cond (has_date_form field && is_day k m' d') (Some (pos (day_number k m' d'))) None) a
        ∙ ap (λ k. cond (has_date_form field && is_day y k d') (Some (pos (day_number y k d'))) None) b
        ∙ ap (λ k. cond (has_date_form field && is_day y m k) (Some (pos (day_number y m k))) None) c
        ∙ ap (λ t. cond t (Some (pos (day_number y m d))) None) (and_from _ _ form e)

pub date-back : (z : ℤ) → is_date z ≡ true → date_of (date_text z) ≡ Some z
date-back (pos n) e =
    let most : n / 10000 ≤ 9999 = leb-true (n / 10000) 9999 (and_parts _ _ (and_parts _ _ (and_parts _ _ e).0).0).1 in
    ap (λ t. date_of (cond t (iso_date n) (signed_decimal (pos n)))) e
    ∙ dated (iso_date n) (n / 10000) (n / 100 % 100) (n % 100)
    (and_from _ _ refl (and_from _ _ (and_from _ _ (last-digits 4 (n / 10000)) (last-digits 2 (n / 100))) (last-digits 2 n)))
    (last-value 4 0 (n / 10000) (omega (arith, most))) (two-digits (n / 100)) (two-digits n) e
    ∙ ap (λ m. Some (pos m)) (let same : n / 10000 * 10000 + n / 100 % 100 * 100 + n % 100 ≡ n = omega arith in same)
date-back (negsuc n) e = absurd (let no = e in cc no)
