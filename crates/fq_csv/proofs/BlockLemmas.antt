-- Bytes that are examined sixteen at a time.
use Rattle.std.specs.Prelude.{◌==◌, ◌||◌, bit_or, max, slice_index}
use Rattle.std.proofs.Common.{◌≡◌, ◌<◌, ◌≤◌, ◌⊎◌, ◌∙◌, ◌+◌, ◌-◌, take, drop, cond, Bool, true, false, ℕ, zero, suc, List, [], length, map, get_or, inl, inr, refl, sym, ap, arith}
use Rattle.std.specs.Int.{bit_at}
use Rattle.std.specs.Simd.Lanes.{chunk, mask_l}
use Rattle.std.proofs.lemmas.List.{get_or-drop, get_or-map, get_or_past, length-drop, length-map, take_all}
use Rattle.std.proofs.lemmas.Bool.{false_from_ne_true}
use Rattle.std.proofs.lemmas.Nat.Bits.{bit_at_or}
use Rattle.std.proofs.lemmas.Simd.{bit_mask_l, get_or-chunk}
use Rattle.fq_csv.specs.Cutting.{NoQuote, NoneStops, stops}

pub le-or-lt : (i j : ℕ) → (i ≤ j) ⊎ (j < i)
le-or-lt zero j = inl (omega arith)
le-or-lt (suc i) zero = inr (omega arith)
le-or-lt (suc i) (suc j) = elim (le-or-lt i j) [ inl l ↦ inl (omega (arith, l)) | inr l ↦ inr (omega (arith, l)) ]

-- the bits of the bytes that stop a search
abbrev pub marks : List ℕ → ℕ
marks xs = bit_or (bit_or (mask_l (map (λ b. b == 34) xs)) (mask_l (map (λ b. b == 13) xs))) (mask_l (map (λ b. b == 10) xs))

any : (a b c : Bool) → max (max (cond a 1 0) (cond b 1 0)) (cond c 1 0) ≡ cond (a || (b || c)) 1 0
any true true true = refl
any true true false = refl
any true false true = refl
any true false false = refl
any false true true = refl
any false true false = refl
any false false true = refl
any false false false = refl

bit-marks : (xs : List ℕ) (k : ℕ) → bit_at (marks xs) k ≡ cond (get_or (map (λ b. b == 34) xs) k false || (get_or (map (λ b. b == 13) xs) k false || get_or (map (λ b. b == 10) xs) k false)) 1 0
bit-marks xs k =
    bit_at_or (bit_or (mask_l (map (λ b. b == 34) xs)) (mask_l (map (λ b. b == 13) xs))) (mask_l (map (λ b. b == 10) xs)) k
    ∙ ap (λ n. max n (bit_at (mask_l (map (λ b. b == 10) xs)) k)) (bit_at_or (mask_l (map (λ b. b == 34) xs)) (mask_l (map (λ b. b == 13) xs)) k)
    ∙ ap (λ n. max (max n (bit_at (mask_l (map (λ b. b == 13) xs)) k)) (bit_at (mask_l (map (λ b. b == 10) xs)) k)) (bit_mask_l (map (λ b. b == 34) xs) k)
    ∙ ap (λ n. max (max (cond (get_or (map (λ b. b == 34) xs) k false) 1 0) n) (bit_at (mask_l (map (λ b. b == 10) xs)) k)) (bit_mask_l (map (λ b. b == 13) xs) k)
    ∙ ap (λ n. max (max (cond (get_or (map (λ b. b == 34) xs) k false) 1 0) (cond (get_or (map (λ b. b == 13) xs) k false) 1 0)) n) (bit_mask_l (map (λ b. b == 10) xs) k)
    ∙ any (get_or (map (λ b. b == 34) xs) k false) (get_or (map (λ b. b == 13) xs) k false) (get_or (map (λ b. b == 10) xs) k false)

here : (xs : List ℕ) (k : ℕ) → k < length xs → bit_at (marks xs) k ≡ cond (stops (get_or xs k 0)) 1 0
here xs k lt =
    bit-marks xs k
    ∙ ap (λ b. cond (b || (get_or (map (λ b. b == 13) xs) k false || get_or (map (λ b. b == 10) xs) k false)) 1 0) (get_or-map (λ b. b == 34) xs k 0 false lt)
    ∙ ap (λ b. cond ((get_or xs k 0 == 34) || (b || get_or (map (λ b. b == 10) xs) k false)) 1 0) (get_or-map (λ b. b == 13) xs k 0 false lt)
    ∙ ap (λ b. cond ((get_or xs k 0 == 34) || ((get_or xs k 0 == 13) || b)) 1 0) (get_or-map (λ b. b == 10) xs k 0 false lt)

past : (p : ℕ → Bool) (xs : List ℕ) (k : ℕ) → length xs ≤ k → get_or (map p xs) k false ≡ false
past p xs k low = get_or_past (map p xs) k false (omega (arith, low, length-map xs p))

gone : (xs : List ℕ) (k : ℕ) → length xs ≤ k → bit_at (marks xs) k ≡ 0
gone xs k low =
    bit-marks xs k
    ∙ ap (λ b. cond (b || (get_or (map (λ b. b == 13) xs) k false || get_or (map (λ b. b == 10) xs) k false)) 1 0) (past (λ b. b == 34) xs k low)
    ∙ ap (λ b. cond (b || get_or (map (λ b. b == 10) xs) k false) 1 0) (past (λ b. b == 13) xs k low)
    ∙ ap (λ b. cond b 1 0) (past (λ b. b == 10) xs k low)

abbrev bit_of : Bool → ℕ
bit_of b = cond b 1 0

unset : (b : Bool) → bit_of b ≡ 0 → b ≡ false
unset true e = absurd (cc e)
unset false e = refl

set : (b : Bool) → bit_of b ≡ 1 → b ≡ true
set true e = refl
set false e = absurd (cc e)

pub none-marked : (xs : List ℕ) → length xs ≡ 16 → marks xs ≡ 0 → NoneStops xs 0 16
none-marked xs size e i low high = unset (stops (get_or xs i 0)) (sym (here xs i (omega (arith, high, size))) ∙ ap (λ n. bit_at n i) e ∙ bit_mask_l [] i)

pub first-marked : (xs : List ℕ) (i : ℕ) → length xs ≡ 16 → bit_at (marks xs) i ≡ 1 → ((k : ℕ) → k < i → bit_at (marks xs) k ≡ 0) → (i < 16) × NoneStops xs 0 i × (stops (get_or xs i 0) ≡ true)
first-marked xs i size one before =
    let lt : i < length xs = elim (le-or-lt (length xs) i) [ inl ge ↦ absurd (cc (sym one ∙ gone xs i ge)) | inr l ↦ l ] in (
      omega (arith, lt, size),
      λ k low high. unset (stops (get_or xs k 0)) (sym (here xs k (omega (arith, lt, high))) ∙ before k high),
      set (stops (get_or xs i 0)) (sym (here xs i lt) ∙ one),
    )

-- no byte more ends the field
pub none-more : (text : List ℕ) (from at n : ℕ) → n ≤ 16 → NoneStops text from at → NoneStops (chunk at 16 text) 0 n → NoneStops text from (at + n)
none-more text from at n few before more i low high = elim (le-or-lt at i) [
  | inr l ↦ before i low l
  | inl ge ↦
      let e : at + (i - at) ≡ i = omega (arith, ge) in
      let lt : i - at < n = omega (arith, high, ge) in
      ap (λ k. stops (get_or text k 0)) (sym e) ∙ ap stops (sym (get_or-chunk at 16 text (i - at) 0 (omega (arith, lt, few)))) ∙ more (i - at) (omega arith) lt
]

pub stops-there : (text : List ℕ) (at i : ℕ) → i < 16 → stops (get_or (chunk at 16 text) i 0) ≡ true → stops (get_or text (at + i) 0) ≡ true
stops-there text at i lt e = ap stops (sym (get_or-chunk at 16 text i 0 lt)) ∙ e

-- ---- a search for a quote

-- none of the bytes before a place of a part is a quote
pub no-quote-in : (text part : List ℕ) (from n : ℕ) → part ≡ take (length text - from) (drop from text) → ((k : ℕ) → 0 ≤ k → k < n → ¬ ((slice_index part k == 34) ≡ true)) → NoQuote text from (from + n)
no-quote-in text part from n e below i low high =
    let k : ℕ = i - from in
    let at : from + k ≡ i = omega (arith, low) in
    let same : slice_index part k ≡ get_or text i 0 =
    ap (λ xs. slice_index xs k) (e ∙ take_all (length text - from) (drop from text) (omega (arith, length-drop from text))) ∙ get_or-drop from text k 0 ∙ ap (λ j. get_or text j 0) at in
    false_from_ne_true (get_or text i 0 == 34) (λ t. below k (omega arith) (omega (arith, high, low)) (ap (λ c. c == 34) same ∙ t))
