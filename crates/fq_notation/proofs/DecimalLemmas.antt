-- A number that is split at its point, and its places.
use Rattle.std.proofs.Common.{◌≡◌, ◌≢◌, ◌<◌, ◌≤◌, ◌^◌, ◌+◌, ◌-◌, ◌*◌, ◌∙◌, ℕ, suc, ℤ, Bool, List, [], ◌∷◌, ◌++◌, true, false, Option, Some, None, IfSome, IfNone, ap, arith, refl, subst, sym, inl, inr, length, slice_index_or, take, drop}
use mathlib.Core.List.{append-nil}
use native.Mathlib.Nat.{le-mul_of_pos_right, one-le-pow, pow-le-pow_right, pow-succ'}
use Rattle.std.specs.Prelude.{◌==◌, if◌then◌else◌, is_some}
use Rattle.std.proofs.lemmas.Option.{same_Some}
use Rattle.std.specs.Char.{digit_value, is_ascii_digit}
use Rattle.std.specs.List.{list_all, list_any}
use Rattle.std.specs.Option.{SomeIff}
use Rattle.std.specs.Str.{all_ascii_digits}
use Rattle.std.specs.Str.Parse.{digits_value, digits_value_after}
use Rattle.std.proofs.lemmas.Bool.{agree_below_at, and_from, and_parts, cases_Bool, eqb-true, ne_eqb}
use Rattle.std.proofs.lemmas.Bool.Decides.{eqb_tells}
use Rattle.std.proofs.lemmas.List.{drop_all, take_all}
use Rattle.std.proofs.lemmas.Str.{digit_value_digit}
use Rattle.std.proofs.lemmas.Str.Parse.{tells_all_ascii_digits}
use Rattle.fq_notation.specs.Decimals.{are_places, before_point, is_decimal, places, scaled}
use Rattle.fq_column.specs.Cell.{fits}
use Rattle.fq_notation.specs.Digits.{after_digits, leading_digits, signed}
use Rattle.fq_notation.specs.declared.decimals.TheConstants.{POWERS}
use Rattle.fq_notation.proofs.DigitLemmas.{all-append, grows, leading-all, no-digit, value-append}

pub power-at : (k : ℕ) → k < 19 → slice_index_or POWERS k 0 ≡ 10 ^ k
power-at k l = eqb-true _ _ (agree_below_at (λ k. slice_index_or POWERS k 0 == 10 ^ k) (λ k. true) 19 k refl l)

-- ---- the point

pub digit-no-point : (c : ℕ) → is_ascii_digit c ≡ true → (c == 46) ≡ false
digit-no-point c d = elim (eqb_tells c 46) [
  | inl p ↦ absurd (let no = rw p.1 at d in cc no)
  | inr p ↦ p.0
]

-- a point stands after the digits that the text begins with
before-after : (xs : List ℕ) → before_point xs ≡ leading_digits xs ++ before_point (after_digits xs)
before-after [] = refl
before-after (c ∷ cs) = elim (cases_Bool (is_ascii_digit c)) [
  | inl d ↦ rw (d, digit-no-point c d) (ap (λ ds. c ∷ ds) (before-after cs))
  | inr d ↦ rw d refl
]

places-after : (xs : List ℕ) → places xs ≡ places (after_digits xs)
places-after [] = refl
places-after (c ∷ cs) = elim (cases_Bool (is_ascii_digit c)) [
  | inl d ↦ rw (d, digit-no-point c d) (places-after cs)
  | inr d ↦ rw d refl
]

-- the digits before the point are at least those that the text begins with
pub begins : (xs : List ℕ) → digits_value 10 (leading_digits xs) ≤ digits_value 10 (before_point xs)
begins xs =
    omega (arith, ap (digits_value 10) (before-after xs), value-append 0 (leading_digits xs) (before_point (after_digits xs)), grows (digits_value 10 (leading_digits xs)) (before_point (after_digits xs)))

empty : (xs : List ℕ) → length xs < 1 → xs ≡ []
empty [] l = refl
empty (c ∷ cs) l = absurd (omega (arith, l))

split : (xs : List ℕ) (c : ℕ) → 0 < length xs → slice_index_or xs 0 0 ≡ c → xs ≡ c ∷ drop 1 xs
split [] c l e = absurd (omega (arith, l))
split (d ∷ ds) c l e = ap (λ x. x ∷ ds) e

-- the digits before the point are those that the text begins with, if nothing follows them, or a point
module _ (number rest : List ℕ) (is : rest ≡ after_digits number) where
  front : before_point rest ≡ [] → before_point number ≡ leading_digits number
  front e = before-after number ∙ ap (λ r. leading_digits number ++ before_point r) (sym is) ∙ ap (λ xs. leading_digits number ++ xs) e ∙ append-nil (leading_digits number)

  known : (w : ℕ) → before_point number ≡ leading_digits number → w ≡ digits_value 10 (leading_digits number) → (all_ascii_digits (before_point number) ≡ true) × (w ≡ digits_value 10 (before_point number))
  known w e v = (ap all_ascii_digits e ∙ leading-all number, v ∙ ap (digits_value 10) (sym e))

  pub no-point : (w : ℕ) → length rest < 1 → w ≡ digits_value 10 (leading_digits number) → (all_ascii_digits (before_point number) ≡ true) × (w ≡ digits_value 10 (before_point number))
  no-point w l v = known w (front (ap before_point (empty rest l))) v

  pub no-places : length rest < 1 → rest ≡ places number
  no-places l = empty rest l ∙ sym (places-after number ∙ ap places (sym is) ∙ ap places (empty rest l))

  pub at-point : (w : ℕ) → 0 < length rest → slice_index_or rest 0 0 ≡ 46 → w ≡ digits_value 10 (leading_digits number) → (all_ascii_digits (before_point number) ≡ true) × (w ≡ digits_value 10 (before_point number))
  at-point w l e v = known w (front (ap before_point (split rest 46 l e))) v

  pub behind-point : 0 < length rest → slice_index_or rest 0 0 ≡ 46 → take (length rest - 1) (drop 1 rest) ≡ places number
  behind-point l e = all rest l ∙ sym (places-after number ∙ ap places (sym is) ∙ ap places (split rest 46 l e))
    where
      all : (xs : List ℕ) → 0 < length xs → take (length xs - 1) (drop 1 xs) ≡ drop 1 xs
      all [] l = absurd (omega (arith, l))
      all (c ∷ cs) l = take_all (length (c ∷ cs) - 1) cs (omega arith)

  -- a byte that is neither a digit nor a point
  pub no-number : 0 < length rest → slice_index_or rest 0 0 ≢ 46 → all_ascii_digits (before_point number) ≡ true → ⊥
  no-number l n a =
      let w = and_parts _ _ (sym (all-append (leading_digits number) (before_point (after_digits number))) ∙ ap all_ascii_digits (sym (before-after number)) ∙ a) in
      first rest l n (ap (λ r. all_ascii_digits (before_point r)) is ∙ w.1)
      (ap (λ r. is_ascii_digit (slice_index_or r 0 0)) is ∙ no-digit number (let m : 0 < length (after_digits number) = omega (arith, ap length is, l) in m))
    where
      first : (r : List ℕ) → 0 < length r → slice_index_or r 0 0 ≢ 46 → all_ascii_digits (before_point r) ≡ true → is_ascii_digit (slice_index_or r 0 0) ≡ false → ⊥
      first [] l n a d = omega (arith, l)
      first (c ∷ cs) l n a d = let h = rw (ne_eqb c 46 n, d) at a in cc h

-- ---- the number without its sign

at-least : (n k m : ℕ) → m < n → m < n * 10 ^ k
at-least n k m l = omega (arith, le-mul_of_pos_right {m = 10 ^ k} n (one-le-pow k 10 (omega arith)), l)

pub too-large : (s : ℕ) (number : List ℕ) → 2 ^ 63 < digits_value 10 (before_point number) → 2 ^ 63 < scaled s number
too-large s number l =
    at-least (digits_value 10 (before_point number ++ take s (places number))) (s - length (places number)) (2 ^ 63)
    (omega (arith, value-append 0 (before_point number) (take s (places number)), grows (digits_value 10 (before_point number)) (take s (places number)), l))

pub before-digits : (s : ℕ) (number : List ℕ) → is_decimal s number ≡ true → all_ascii_digits (before_point number) ≡ true
before-digits s number e = (and_parts _ _ (and_parts _ _ e).0).1

module _ (s : ℕ) (number ps : List ℕ) (w : ℕ) (a : w ≡ digits_value 10 (before_point number)) (e : ps ≡ places number) where
  scaled-is : digits_value_after 10 w (take s ps) * 10 ^ (s - length ps) ≡ scaled s number
  scaled-is =
      ap (λ xs. digits_value_after 10 w (take s xs) * 10 ^ (s - length xs)) e
      ∙ ap (λ m. m * 10 ^ (s - length (places number))) (ap (λ k. digits_value_after 10 k (take s (places number))) a ∙ sym (value-append 0 (before_point number) (take s (places number))))

  pub decimal-found : (o : Option ℕ) → list_any is_ascii_digit number ≡ true → all_ascii_digits (before_point number) ≡ true → IfSome o (λ n. n ≡ digits_value_after 10 w (take s ps) * 10 ^ (s - length ps))
      → IfSome o (λ n. are_places s ps ≡ true) → IfSome o (λ n. (is_decimal s number ≡ true) × (n ≡ scaled s number))
  decimal-found None d b v f = tt
  decimal-found (Some n) d b v f = (and_from _ _ (and_from _ _ d b) (ap (are_places s) (sym e) ∙ f), v ∙ scaled-is)

  pub decimal-missed : (o : Option ℕ) → IfNone o (are_places s ps ≡ true → 2 ^ 63 < digits_value_after 10 w (take s ps) * 10 ^ (s - length ps)) → IfNone o (is_decimal s number ≡ true → 2 ^ 63 < scaled s number)
  decimal-missed None h = λ t. let l = h (ap (are_places s) e ∙ (and_parts _ _ t).1) in omega (arith, l, scaled-is)
  decimal-missed (Some n) h = tt

-- ---- the places

pub many-places : (s w : ℕ) (ps kept : List ℕ) → kept ≡ take s ps → (all_ascii_digits kept ≡ true → 2 ^ 63 < digits_value_after 10 w kept) → are_places s ps ≡ true
    → 2 ^ 63 < digits_value_after 10 w (take s ps) * 10 ^ (s - length ps)
many-places s w ps kept k h e =
    let l = h (ap all_ascii_digits k ∙ (and_parts _ _ e).0) in
    at-least (digits_value_after 10 w (take s ps)) (s - length ps) (2 ^ 63) (omega (arith, l, ap (digits_value_after 10 w) k))

-- ---- few bytes

-- a number without its point; what is left to read of it, behind the point or not
abbrev pub without_point : List ℕ → List ℕ
without_point xs = before_point xs ++ places xs

abbrev pub left : Option ℕ → List ℕ → List ℕ
left None xs = without_point xs
left (Some k) xs = xs

pub left-digit : (o : Option ℕ) (c : ℕ) (cs : List ℕ) → is_ascii_digit c ≡ true → left o (c ∷ cs) ≡ c ∷ left o cs
left-digit None c cs d = rw (digit-no-point c d) refl
left-digit (Some k) c cs d = refl

-- how many places are behind the point, if there is one
abbrev pub point_in : List ℕ → Option ℕ
point_in xs = if list_any (λ c. c == 46) xs then Some (length (places xs)) else None

-- the same, where they have been counted or are still to come
abbrev pub counted : Option ℕ → List ℕ → Option ℕ
counted None xs = point_in xs
counted (Some k) xs = Some k

pub counted-digit : (o : Option ℕ) (c : ℕ) (cs : List ℕ) → is_ascii_digit c ≡ true → counted o (c ∷ cs) ≡ counted o cs
counted-digit None c cs d = rw (digit-no-point c d) refl
counted-digit (Some k) c cs d = refl

-- one digit more of few is below the next power of 10
pub one-more : (n d l : ℕ) → d < 10 → l < 18 → n < 10 ^ (18 - suc l) → n * 10 + d < 10 ^ (18 - l)
one-more n d l few less below =
    let next : 18 - l ≡ suc (18 - suc l) = omega (arith, less) in
    let power : 10 ^ (18 - l) ≡ 10 * 10 ^ (18 - suc l) = ap (λ k. 10 ^ k) next ∙ pow-succ' 10 (18 - suc l) in
    omega (arith, power, below, few)

pub power-few : (l : ℕ) → 10 ^ (18 - l) ≤ 10 ^ 18
power-few l = pow-le-pow_right {n = 10} (omega arith) {i = 18 - l} {j = 18} (omega arith)

-- few bytes are read up to here: these digits were read, and what is left goes on as all of them
abbrev pub IsReadTo : List ℕ → ℕ → Option ℕ → List ℕ → Type 0
IsReadTo number n o rest = record {
  few : length rest ≤ 18;
  below : n < 10 ^ (18 - length rest);
  form : all_ascii_digits (left o rest) ≡ all_ascii_digits (without_point number);
  value : digits_value_after 10 n (left o rest) ≡ digits_value 10 (without_point number);
  places : counted o rest ≡ point_in number;
}

pub read-first : (number : List ℕ) → length number ≤ 18 → IsReadTo number 0 None number
read-first number l = record {
  few = l;
  below = omega (arith, one-le-pow (18 - length number) 10 (omega arith));
  form = refl;
  value = refl;
  places = refl;
}

digit-below : (c : ℕ) → is_ascii_digit c ≡ true → (c - 48 ≡ digit_value c) × (c - 48 < 10)
digit-below c digit =
    let range = (tells_all_ascii_digits.parts c [] (and_from _ _ digit refl)).0 in
    (omega (arith, digit_value_digit c range), omega (arith, range.0, range.1))

-- the number with one digit more
pub digit-fits : (number : List ℕ) (n : ℕ) (o : Option ℕ) (xs : List ℕ) → 0 < length xs → is_ascii_digit (slice_index_or xs 0 0) ≡ true → IsReadTo number n o xs
    → n * 10 + (slice_index_or xs 0 0 - 48) < 10 ^ 18
digit-fits number n o [] l digit h = absurd (omega (arith, l))
digit-fits number n o (c ∷ cs) l digit h =
    omega (arith, one-more n (c - 48) (length cs) (digit-below c digit).1 (omega (arith, h.few)) h.below, power-few (length cs))

pub read-digit : (number : List ℕ) (n d : ℕ) (o : Option ℕ) (xs : List ℕ) → 0 < length xs → is_ascii_digit (slice_index_or xs 0 0) ≡ true → d ≡ slice_index_or xs 0 0 - 48 → IsReadTo number n o xs
    → IsReadTo number (n * 10 + d) o (take (length xs - 1) (drop 1 xs))
read-digit number n d o [] l digit e h = absurd (omega (arith, l))
read-digit number n d o (c ∷ cs) l digit e h =
    let is = digit-below c digit in
    let first : all_ascii_digits (c ∷ left o cs) ≡ all_ascii_digits (left o cs) = rw digit refl in
    let here = left-digit o c cs digit in
    subst (IsReadTo number (n * 10 + d) o) (sym (take_all (length (c ∷ cs) - 1) cs (omega arith))) (record {
      few = omega (arith, h.few);
      below = one-more n d (length cs) (omega (arith, e, is.1)) (omega (arith, h.few)) h.below;
      form = sym first ∙ ap all_ascii_digits (sym here) ∙ h.form;
      value = ap (λ k. digits_value_after 10 (n * 10 + k) (left o cs)) (e ∙ is.0) ∙ ap (digits_value_after 10 n) (sym here) ∙ h.value;
      places = sym (counted-digit o c cs digit) ∙ h.places;
    })

pub read-point : (number : List ℕ) (n k : ℕ) (o : Option ℕ) (xs : List ℕ) → 0 < length xs → slice_index_or xs 0 0 ≡ 46 → is_some o ≡ false → k ≡ length (take (length xs - 1) (drop 1 xs)) → IsReadTo number n o xs
    → IsReadTo number n (Some k) (take (length xs - 1) (drop 1 xs))
read-point number n k o [] l point none e h = absurd (omega (arith, l))
read-point number n k (Some p) (c ∷ cs) l point none e h = absurd (cc)
read-point number n k None (c ∷ cs) l point none e h =
    let all = take_all (length (c ∷ cs) - 1) cs (omega arith) in
    let here : without_point (c ∷ cs) ≡ cs = rw point refl in
    let here-point : point_in (c ∷ cs) ≡ Some (length cs) = rw point refl in
    let next : 10 ^ (18 - length (c ∷ cs)) ≤ 10 ^ (18 - length cs) = pow-le-pow_right {n = 10} (omega arith) {i = 18 - length (c ∷ cs)} {j = 18 - length cs} (omega arith) in
    subst (IsReadTo number n (Some k)) (sym all) (record {
      few = omega (arith, h.few);
      below = omega (arith, h.below, next);
      form = ap all_ascii_digits (sym here) ∙ h.form;
      value = ap (digits_value_after 10 n) (sym here) ∙ h.value;
      places = ap Some (e ∙ ap length all) ∙ sym here-point ∙ h.places;
    })

-- the places of a number with a point, and of one without
pub some-places : (number : List ℕ) (k : ℕ) → Some k ≡ point_in number → k ≡ length (places number)
some-places number k e = elim (cases_Bool (list_any (λ c. c == 46) number)) [
  | inl p ↦ same_Some _ _ (rw p at e)
  | inr p ↦ absurd (let no = rw p at e in cc no)
]

pub no-point-in : (number : List ℕ) → None ≡ point_in number → list_any (λ c. c == 46) number ≡ false
no-point-in number e = elim (cases_Bool (list_any (λ c. c == 46) number)) [
  | inl p ↦ absurd (let no = rw p at e in cc no)
  | inr p ↦ p
]

pub none-behind : (xs : List ℕ) → list_any (λ c. c == 46) xs ≡ false → length (places xs) ≡ 0
none-behind [] p = refl
none-behind (c ∷ cs) p = elim (cases_Bool (c == 46)) [
  | inl d ↦ absurd (let no = rw d at p in cc no)
  | inr d ↦ rw d (none-behind cs (rw d at p))
]

-- each byte of a number is a digit, but for a point
pub any-alone : (xs : List ℕ) → all_ascii_digits (without_point xs) ≡ true → list_any (λ c. c == 46) xs ≡ false → 0 < length xs → list_any is_ascii_digit xs ≡ true
any-alone [] a p l = absurd (omega (arith, l))
any-alone (c ∷ cs) a p l = elim (cases_Bool (c == 46)) [
  | inl d ↦ absurd (let no = rw d at p in cc no)
  | inr d ↦ (let w : all_ascii_digits (c ∷ without_point cs) ≡ true = rw d at a in let h : is_ascii_digit c ≡ true = (and_parts _ _ w).0 in rw h refl)
]

pub any-of-two : (xs : List ℕ) → all_ascii_digits (without_point xs) ≡ true → 1 < length xs → list_any is_ascii_digit xs ≡ true
any-of-two [] a l = absurd (omega (arith, l))
any-of-two (c ∷ []) a l = absurd (omega (arith, l))
any-of-two (c ∷ d ∷ ds) a l = elim (cases_Bool (c == 46)) [
  | inl e ↦ (let w : all_ascii_digits (d ∷ ds) ≡ true = rw e at a in let h : is_ascii_digit d ≡ true = (and_parts _ _ w).0 in or-right c (rw h refl))
  | inr e ↦ (let w : all_ascii_digits (c ∷ without_point (d ∷ ds)) ≡ true = rw e at a in let h : is_ascii_digit c ≡ true = (and_parts _ _ w).0 in rw h refl)
]
  where
    or-right : (c : ℕ) → list_any is_ascii_digit (d ∷ ds) ≡ true → list_any is_ascii_digit (c ∷ d ∷ ds) ≡ true
    or-right c h = elim (cases_Bool (is_ascii_digit c)) [
      | inl f ↦ rw f refl
      | inr f ↦ rw f h
    ]

-- a place behind the point is a digit of the number
any-digit : (xs : List ℕ) → 0 < length xs → all_ascii_digits xs ≡ true → list_any is_ascii_digit xs ≡ true
any-digit [] l a = absurd (omega (arith, l))
any-digit (d ∷ ds) l a = let h : is_ascii_digit d ≡ true = (and_parts _ _ a).0 in rw h refl

any-behind : (xs : List ℕ) → 0 < length (places xs) → all_ascii_digits (places xs) ≡ true → list_any is_ascii_digit xs ≡ true
any-behind [] l a = absurd (omega (arith, l))
any-behind (c ∷ cs) l a = elim (cases_Bool (c == 46)) [
  | inl d ↦ any-after (any-digit cs (rw d at l) (rw d at a))
  | inr d ↦ any-after (any-behind cs (rw d at l) (rw d at a))
]
  where
    any-after : list_any is_ascii_digit cs ≡ true → list_any is_ascii_digit (c ∷ cs) ≡ true
    any-after h = elim (cases_Bool (is_ascii_digit c)) [
      | inl d ↦ rw d refl
      | inr d ↦ rw d h
    ]

-- digits with at most one point among them, and no more places than the scale
module _ (s : ℕ) (number : List ℕ) (d : ℕ) (form : all_ascii_digits (without_point number) ≡ true) (is : d ≡ digits_value 10 (without_point number)) where
  parts-of : (all_ascii_digits (before_point number) ≡ true) × (all_ascii_digits (places number) ≡ true)
  parts-of = and_parts _ _ (sym (all-append (before_point number) (places number)) ∙ form)

  module _ (l : length (places number) ≤ s) where
    kept : take s (places number) ≡ places number
    kept = take_all s (places number) l

    value-of : d * 10 ^ (s - length (places number)) ≡ scaled s number
    value-of = ap (λ m. m * 10 ^ (s - length (places number))) (is ∙ ap (λ ps. digits_value 10 (before_point number ++ ps)) (sym kept))

    decimal-of : list_any is_ascii_digit number ≡ true → is_decimal s number ≡ true
    decimal-of some = and_from _ _ (and_from _ _ some parts-of.0) (and_from _ _ (ap all_ascii_digits kept ∙ parts-of.1) (ap (list_all (λ c. c == 48)) (drop_all s (places number) l)))

  -- as many places as the scale has
  pub exact-found : length (places number) ≡ s → 0 < s → (is_decimal s number ≡ true) × (d ≡ scaled s number)
  exact-found same some =
      let within : length (places number) ≤ s = omega (arith, same) in
      let none-left : s - length (places number) ≡ 0 = omega (arith, same) in
      let one : 10 ^ (s - length (places number)) ≡ 1 = ap (λ k. 10 ^ k) none-left in
      let times-one : d ≡ d * 1 = omega arith in
      (decimal-of within (any-behind number (omega (arith, same, some)) parts-of.1), times-one ∙ ap (λ m. d * m) (sym one) ∙ value-of within)

  -- fewer places
  pub short-found : (k n : ℕ) → k ≡ length (places number) → list_any is_ascii_digit number ≡ true → k ≤ s → n ≡ d * 10 ^ (s - k) → (is_decimal s number ≡ true) × (n ≡ scaled s number)
  short-found k n same some l is-n =
      let within : length (places number) ≤ s = omega (arith, same, l) in
      (decimal-of within some, is-n ∙ ap (λ p. d * 10 ^ (s - p)) same ∙ value-of within)

-- with a sign
pub with-sign : (is_negative : Bool) (n m : ℕ) (o : Option ℤ) → n ≡ m → SomeIff o (fits (signed is_negative n) ≡ true) (signed is_negative n) → (P : Type 0) → P
    → IfSome o (λ z. P × (fits (signed is_negative m) ≡ true) × (z ≡ signed is_negative m))
with-sign is_negative n m None same h P p = tt
with-sign is_negative n m (Some z) same h P p = (p, ap (λ k. fits (signed is_negative k)) (sym same) ∙ h.0, h.1 ∙ ap (signed is_negative) same)
