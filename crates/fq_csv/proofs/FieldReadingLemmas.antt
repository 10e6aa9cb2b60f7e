-- What std says of a field that it reads as text, as the tests of the definitions.
use Rattle.std.proofs.Common.{◌≡◌, ◌<◌, ◌+◌, ◌∙◌, length, map, take, get_or, sym, false, ℕ, List, [], ◌∷◌, true, Result, Ok, Err, zero, suc, refl, ap, arith, inl, inr, Bor, Some}
use Rattle.std.specs.Prelude.{MatchResult, option_map}
use Rattle.std.specs.Result.{result_ok}
use Rattle.std.specs.Str.{IsUtf8, bytes_eq, is_utf8}
use Rattle.std.proofs.lemmas.Bool.{cases_Bool, false_from_ne_true}
use Rattle.std.proofs.lemmas.Str.{IsUtf8-from_is_utf8, is_utf8-from_IsUtf8}
use Rattle.fq_csv.specs.Field.{is_one_of, text_of}

-- a field that was read as text, or was found to be none
pub read-text : {E : Type 0} (bs : List ℕ) (r : Result (Bor (List ℕ)) E) (Q : E → Type 0)
    → MatchResult r (λ s. (s.now ≡ bs) × IsUtf8 bs) (λ e. ¬ (IsUtf8 bs) × Q e) → option_map (λ (t : Bor (List ℕ)). t.now) (result_ok r) ≡ text_of bs
read-text bs (Ok t) Q h = rw (is_utf8-from_IsUtf8 bs h.1) (ap Some h.0)
read-text bs (Err e) Q h = rw (false_from_ne_true (is_utf8 bs) (λ t. h.0 (IsUtf8-from_is_utf8 bs t))) refl

-- ---- the texts that are null

module _ {X : Type 0} (bytes_of : X → List ℕ) (field : List ℕ) where
  -- one more of them is not the field
  pub is_one_of-more : (xs : List X) (i : ℕ) (x : X) → i < length xs → x ≡ get_or xs i x → is_one_of (map bytes_of (take i xs)) field ≡ false → bytes_eq (bytes_of x) field ≡ false
      → is_one_of (map bytes_of (take (i + 1) xs)) field ≡ false
  is_one_of-more xs i x h e before this = ap (λ n. is_one_of (map bytes_of (take n xs)) field) (let up : i + 1 ≡ suc i = omega arith in up) ∙ go xs i h e before
    where
      go : (ys : List X) (j : ℕ) → j < length ys → x ≡ get_or ys j x → is_one_of (map bytes_of (take j ys)) field ≡ false → is_one_of (map bytes_of (take (suc j) ys)) field ≡ false
      go [] j h e before = absurd (omega (arith, h))
      go (y ∷ ys) zero h e before = let is : bytes_eq (bytes_of y) field ≡ false = ap (λ z. bytes_eq (bytes_of z) field) (sym e) ∙ this in rw is refl
      go (y ∷ ys) (suc j) h e before = elim (cases_Bool (bytes_eq (bytes_of y) field)) [
        | inl t ↦ absurd (let q = rw t at before in cc q)
        | inr f ↦ rw f (go ys j (omega (arith, h)) e (rw f at before))
      ]

  -- one of them is the field
  pub is_one_of-here : (xs : List X) (i : ℕ) (x : X) → i < length xs → x ≡ get_or xs i x → bytes_eq (bytes_of x) field ≡ true → is_one_of (map bytes_of xs) field ≡ true
  is_one_of-here [] i x h e this = absurd (omega (arith, h))
  is_one_of-here (y ∷ ys) zero x h e this = let is : bytes_eq (bytes_of y) field ≡ true = ap (λ z. bytes_eq (bytes_of z) field) (sym e) ∙ this in rw is refl
  is_one_of-here (y ∷ ys) (suc i) x h e this = elim (cases_Bool (bytes_eq (bytes_of y) field)) [
    | inl t ↦ rw t refl
    | inr f ↦ rw f (is_one_of-here ys i x (omega (arith, h)) e this)
  ]
