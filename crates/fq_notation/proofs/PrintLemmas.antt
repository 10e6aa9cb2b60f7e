-- The last digits of a number, and its text with a point before them.
use Rattle.std.proofs.Common.{◌≡◌, ◌<◌, ◌≤◌, ◌^◌, ◌+◌, ◌-◌, ◌*◌, ◌/◌, ◌%◌, ◌∙◌, ℕ, zero, suc, List, [], ◌∷◌, ◌++◌, true, ap, arith, refl, subst, sym, inl, inr, length, take, drop, add-one, append_assoc, length-append}
use mathlib.Core.List.{append-nil}
use native.Mathlib.Nat.{div-eq_of_lt, div-one, div-div-eq-div-mul, pow-le-pow_right, pow-succ'}
use lib.ListN.{replicate}
use Rattle.std.specs.Char.{digit_value, is_ascii_digit}
use Rattle.std.specs.Fmt.{decimal}
use Rattle.std.specs.Str.{all_ascii_digits}
use Rattle.std.specs.Str.Parse.{digits_value_after}
use Rattle.std.proofs.lemmas.Bool.{and_from, cases_lt, le-leb}
use Rattle.std.proofs.lemmas.Fmt.{decimal_digit, decimal_is_IsNumeral, decimal_nonempty, decimal_step, length-decimal-le}
use Rattle.std.proofs.lemmas.Int.Digits.{digits_value-lt}
use Rattle.std.proofs.lemmas.List.{drop-append-le, drop_all, replicate_more, take-append-le, take_all}
use Rattle.std.proofs.lemmas.Nat.{div-add-mod'}
use Rattle.std.proofs.lemmas.Str.{digit_value_digit}
use Rattle.fq_notation.specs.Digits.{last_digits}
use Rattle.fq_notation.proofs.DigitLemmas.{all-append, value-append}

tenth : (k n : ℕ) → n / 10 / 10 ^ k ≡ n / 10 ^ suc k
tenth k n = div-div-eq-div-mul n 10 (10 ^ k) ∙ ap (λ p. n / p) (sym (pow-succ' 10 k))

-- the digits of a number are those of its front, and the last ones
pub split : (k n : ℕ) → n < 2 ^ 64 → k < length (decimal n) → decimal n ≡ decimal (n / 10 ^ k) ++ last_digits k n
split zero n b l = ap decimal (sym (div-one n)) ∙ sym (append-nil (decimal (n / 1)))
split (suc k) n b l = elim (cases_lt n 10) [
  | inl s ↦ absurd (omega (arith, ap length (decimal_digit n s), l))
  | inr g ↦
      let step = decimal_step n g b in
      let len : length (decimal n) ≡ length (decimal (n / 10)) + 1 = ap length step ∙ length-append (decimal (n / 10)) ((48 + n % 10) ∷ []) in
      let more = split k (n / 10) (omega (arith, b)) (omega (arith, len, l)) in
      step ∙ ap (λ ds. ds ++ (48 + n % 10) ∷ []) more ∙ append_assoc (decimal (n / 10 / 10 ^ k)) (last_digits k (n / 10)) ((48 + n % 10) ∷ [])
      ∙ ap (λ m. decimal m ++ (last_digits k (n / 10) ++ (48 + n % 10) ∷ [])) (tenth k n)
]

zeros : (k : ℕ) → last_digits k 0 ≡ replicate k 48
zeros zero = refl
zeros (suc k) = ap (λ ds. ds ++ 48 ∷ []) (zeros k) ∙ replicate_more k 48 ∙ ap (λ m. replicate m 48) (add-one k)

-- a number of fewer digits has zeros before them
pub padded : (k n : ℕ) → n < 2 ^ 64 → length (decimal n) ≤ k → last_digits k n ≡ replicate (k - length (decimal n)) 48 ++ decimal n
padded zero n b l = absurd (omega (arith, decimal_nonempty n b, l))
padded (suc k) n b l = elim (cases_lt n 10) [
  | inl s ↦
      let one = decimal_digit n s in
      let front : last_digits k (n / 10) ≡ replicate k 48 = ap (last_digits k) (let none : n / 10 ≡ 0 = omega (arith, s) in none) ∙ zeros k in
      let last : (48 + n % 10) ∷ [] ≡ decimal n = ap (λ d. (48 + d) ∷ []) (let same : n % 10 ≡ n = omega (arith, s) in same) ∙ sym one in
      let few : k ≡ suc k - length (decimal n) = omega (arith, ap length one) in
      ap (λ ds. ds ++ (48 + n % 10) ∷ []) front ∙ ap (λ ds. replicate k 48 ++ ds) last ∙ ap (λ m. replicate m 48 ++ decimal n) few
  | inr g ↦
      let step = decimal_step n g b in
      let len : length (decimal n) ≡ length (decimal (n / 10)) + 1 = ap length step ∙ length-append (decimal (n / 10)) ((48 + n % 10) ∷ []) in
      let more = padded k (n / 10) (omega (arith, b)) (omega (arith, len, l)) in
      let few : k - length (decimal (n / 10)) ≡ suc k - length (decimal n) = omega (arith, len) in
      ap (λ ds. ds ++ (48 + n % 10) ∷ []) more ∙ append_assoc (replicate (k - length (decimal (n / 10))) 48) (decimal (n / 10)) ((48 + n % 10) ∷ [])
      ∙ ap (λ ds. replicate (k - length (decimal (n / 10))) 48 ++ ds) (sym step) ∙ ap (λ m. replicate m 48 ++ decimal n) few
]

pub length-last : (k n : ℕ) → length (last_digits k n) ≡ k
length-last zero n = refl
length-last (suc k) n = length-append (last_digits k (n / 10)) ((48 + n % 10) ∷ []) ∙ ap (λ m. m + 1) (length-last k (n / 10)) ∙ add-one k

digit : (n : ℕ) → is_ascii_digit (48 + n % 10) ≡ true
digit n = and_from _ _ (le-leb 48 (48 + n % 10) (omega arith)) (le-leb (48 + n % 10) 57 (omega arith))

pub last-digits : (k n : ℕ) → all_ascii_digits (last_digits k n) ≡ true
last-digits zero n = refl
last-digits (suc k) n = all-append (last_digits k (n / 10)) ((48 + n % 10) ∷ []) ∙ and_from _ _ (last-digits k (n / 10)) (and_from _ _ (digit n) refl)

-- after the front of a number they write that number
pub last-value : (k m n : ℕ) → m ≡ n / 10 ^ k → digits_value_after 10 m (last_digits k n) ≡ n
last-value zero m n e = e ∙ div-one n
last-value (suc k) m n e =
    let front = last-value k m (n / 10) (e ∙ sym (tenth k n)) in
    let value : digit_value (48 + n % 10) ≡ n % 10 = omega (arith, digit_value_digit (48 + n % 10) (omega arith, omega arith)) in
    value-append m (last_digits k (n / 10)) ((48 + n % 10) ∷ []) ∙ ap (λ v. v * 10 + digit_value (48 + n % 10)) front
    ∙ ap (λ d. n / 10 * 10 + d) value ∙ div-add-mod' n 10

-- the two parts of its digits
pub cut : (k n : ℕ) → n < 2 ^ 64 → k < length (decimal n)
    → (take (length (decimal n) - k) (decimal n) ≡ decimal (n / 10 ^ k)) × (drop (length (decimal n) - k) (decimal n) ≡ last_digits k n)
cut k n b l = parts (decimal n) (decimal (n / 10 ^ k)) (last_digits k n) (split k n b l) (length-last k n)
  where
    parts : (ds fs ls : List ℕ) → ds ≡ fs ++ ls → length ls ≡ k → (take (length ds - k) ds ≡ fs) × (drop (length ds - k) ds ≡ ls)
    parts ds fs ls e len =
        let at : length ds - k ≡ length fs = omega (arith, ap length e, length-append fs ls, len) in (
          ap (λ m. take m ds) at ∙ ap (take (length fs)) e ∙ take-append-le (length fs) fs ls (omega arith) ∙ take_all (length fs) fs (omega arith),
          ap (λ m. drop m ds) at ∙ ap (drop (length fs)) e ∙ drop-append-le (length fs) fs ls (omega arith) ∙ ap (λ xs. xs ++ ls) (drop_all (length fs) fs (omega arith)),
        )

-- a number of so few digits has nothing in front of them
pub front-none : (k n : ℕ) → n < 2 ^ 64 → length (decimal n) ≤ k → decimal (n / 10 ^ k) ≡ 48 ∷ []
front-none k n b l =
    let d = decimal_is_IsNumeral n b in
    let below : n < 10 ^ k = omega (arith, d.1, digits_value-lt 10 (decimal n) d.0.1, pow-le-pow_right {n = 10} (omega arith) l) in
    ap decimal (div-eq_of_lt below) ∙ decimal_digit 0 (omega arith)

pub short-decimal : (n : ℕ) → n ≤ 2 ^ 63 → length (decimal n) ≤ 19
short-decimal n l = length-decimal-le 19 n (omega arith) (omega (arith, l)) (omega (arith, l))

-- ---- texts that grow

pub cut-of : (k n : ℕ) (ds : List ℕ) → ds ≡ decimal n → n < 2 ^ 64 → k < length ds → (take (length ds - k) ds ≡ decimal (n / 10 ^ k)) × (drop (length ds - k) ds ≡ last_digits k n)
cut-of k n ds e b l =
    subst (λ (xs : List ℕ). k < length xs → (take (length xs - k) xs ≡ decimal (n / 10 ^ k)) × (drop (length xs - k) xs ≡ last_digits k n)) (sym e) (cut k n b) l

pub joined : (t0 t1 t2 t3 whole places front last : List ℕ) → t1 ≡ t0 ++ whole → t2 ≡ t1 ++ 46 ∷ [] → t3 ≡ t2 ++ places → whole ≡ front → places ≡ last → t3 ≡ t0 ++ (front ++ 46 ∷ last)
joined t0 t1 t2 t3 whole places front last a b c d e =
    c ∙ ap (λ xs. xs ++ places) (b ∙ ap (λ xs. xs ++ 46 ∷ []) a)
    ∙ append_assoc (t0 ++ whole) (46 ∷ []) places ∙ append_assoc t0 whole (46 ∷ places)
    ∙ ap (λ xs. t0 ++ (xs ++ 46 ∷ places)) d ∙ ap (λ xs. t0 ++ (front ++ 46 ∷ xs)) e

pub joined-zeros : (k n : ℕ) (t0 t1 t2 t3 zs ds : List ℕ) → t1 ≡ t0 ++ 48 ∷ 46 ∷ [] → t2 ≡ t1 ++ zs → t3 ≡ t2 ++ ds → ds ≡ decimal n → zs ≡ replicate (k - length ds) 48 → n < 2 ^ 64 → length ds ≤ k
    → t3 ≡ t0 ++ (decimal (n / 10 ^ k) ++ 46 ∷ last_digits k n)
joined-zeros k n t0 t1 t2 t3 zs ds a b c d z l few =
    let short : length (decimal n) ≤ k = omega (arith, ap length d, few) in
    let last : zs ++ ds ≡ last_digits k n = ap (λ xs. xs ++ ds) z ∙ ap (λ xs. replicate (k - length xs) 48 ++ xs) d ∙ sym (padded k n l short) in
    c ∙ ap (λ xs. xs ++ ds) (b ∙ ap (λ xs. xs ++ zs) a)
    ∙ append_assoc (t0 ++ 48 ∷ 46 ∷ []) zs ds ∙ append_assoc t0 (48 ∷ 46 ∷ []) (zs ++ ds)
    ∙ ap (λ xs. t0 ++ 48 ∷ 46 ∷ xs) last ∙ ap (λ xs. t0 ++ (xs ++ 46 ∷ last_digits k n)) (sym (front-none k n l short))
