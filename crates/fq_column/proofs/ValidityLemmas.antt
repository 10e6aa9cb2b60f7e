-- Marks in words, under the changes of a list of marks.
use Rattle.std.proofs.Common.{◌≡◌, ◌<◌, ◌≤◌, ◌⊎◌, ◌+◌, ◌*◌, ◌/◌, ◌%◌, ◌∙◌, ℕ, zero, suc, Bool, true, false, List, [], ◌∷◌, ◌++◌, Some, ap, arith, cond, get_or, inl, inr, length, min, refl, replicate, set, sym, take}
use Rattle.std.specs.Prelude.{slice_get, if◌then◌else◌}
use Rattle.std.specs.Bool.{◌==◌}
use Rattle.std.specs.Int.{bit_at}
use Rattle.std.specs.List.{filter}
use Rattle.std.proofs.lemmas.Bool.{cases_eq, cases_lt, eq-eqb, ne_eqb}
use Rattle.std.proofs.lemmas.List.{append-nil, append_assoc, get_or_append_left, get_or-append-add, get_or-replicate, get_or-take, get_or_past, get_or-set_same, get_or-set_other, length-replicate, length-set, length-take-le, same_lists, take_all, take_more}
use Rattle.std.proofs.lemmas.List.FromFn.{get_or-map-range_with_len, length-map-range_with_len, map-range_with_len_more, take-map-range_with_len}
use Rattle.std.proofs.lemmas.Nat.Bits.{bit_at-zero, bit_at_ones}
use Rattle.std.proofs.lemmas.Option.{slice_get-get_or}
use Rattle.fq_column.specs.Lists.{keep}
use Rattle.fq_column.specs.Validity.{mark_at, marks, word_at}
use Rattle.fq_column.proofs.ListLemmas.{keep-snoc}

pub length-marks : (words : List ℕ) (n : ℕ) → length (marks words n) ≡ n
length-marks words n = length-map-range_with_len (mark_at words) 0 n

mark-at : (words : List ℕ) (n i : ℕ) (d : Bool) → i < n → get_or (marks words n) i d ≡ mark_at words i
mark-at words n i d l = get_or-map-range_with_len (mark_at words) 0 n i i d l (omega arith)

pub get-marks : (words : List ℕ) (n i : ℕ) → i < n → slice_get (marks words n) i ≡ Some (mark_at words i)
get-marks words n i l = slice_get-get_or (marks words n) i true (omega (arith, l, length-marks words n)) ∙ ap Some (mark-at words n i true l)

pub same-marks : (old new : List ℕ) (n : ℕ) → ((i : ℕ) → i < n → mark_at new i ≡ mark_at old i) → marks new n ≡ marks old n
same-marks old new n h =
    same_lists (marks new n) (marks old n) (length-marks new n ∙ sym (length-marks old n))
    (λ k d l. let below : k < n = omega (arith, l, length-marks new n) in mark-at new n k d below ∙ h k below ∙ sym (mark-at old n k d below))

pub marks-more : (words : List ℕ) (n : ℕ) → marks words (n + 1) ≡ marks words n ++ mark_at words n ∷ []
marks-more words n = map-range_with_len_more (mark_at words) 0 n n (omega arith)

pub marks-take : (words : List ℕ) (n k : ℕ) → take k (marks words n) ≡ marks words (min n k)
marks-take words n k =
    elim (cases_lt k n) [
      | inl l ↦ take-map-range_with_len (mark_at words) 0 n k (omega (arith, l)) ∙ ap (marks words) (omega (arith, l))
      | inr l ↦ take_all k (marks words n) (omega (arith, l, length-marks words n)) ∙ ap (marks words) (omega (arith, l))
    ]

abbrev pub all-bits : ℕ
all-bits = 0xFFFF_FFFF_FFFF_FFFF

-- the same words have the same marks
mark-of : (old new : List ℕ) (i j : ℕ) → word_at new (i / 64) ≡ word_at old (j / 64) → i % 64 ≡ j % 64 → mark_at new i ≡ mark_at old j
mark-of old new i j e f = ap (λ w. bit_at w (i % 64) == 1) e ∙ ap (λ k. bit_at (word_at old (j / 64)) k == 1) f

-- behind the last word
pub mark-behind : (words : List ℕ) (i : ℕ) → length words ≤ i / 64 → mark_at words i ≡ true
mark-behind words i l =
    ap (λ w. bit_at w (i % 64) == 1) (get_or_past words (i / 64) all-bits l) ∙ ap (λ b. b == 1) (bit_at_ones 64 (i % 64) (omega arith))

-- words that are cut, or filled up with words of all bits, to k
pub mark-resized : (old new : List ℕ) (k : ℕ) → length new ≡ k → ((q d : ℕ) → q < k → q < length old → get_or new q d ≡ get_or old q d)
    → ((q d : ℕ) → length old ≤ q → q < k → get_or new q d ≡ all-bits) → (j : ℕ) → (j / 64 < k) ⊎ (length old ≤ k) → mark_at new j ≡ mark_at old j
mark-resized old new k size same filled j h =
    elim (cases_lt (j / 64) k) [
      | inl l ↦ elim (cases_lt (j / 64) (length old)) [
        | inl o ↦ mark-of old new j j (same (j / 64) all-bits l o) refl
        | inr o ↦ mark-of old new j j (filled (j / 64) all-bits o l ∙ sym (get_or_past old (j / 64) all-bits o)) refl
      ]
      | inr l ↦ elim h [
        | inl b ↦ absurd (omega (arith, b, l))
        | inr b ↦ mark-behind new j (omega (arith, size, l)) ∙ sym (mark-behind old j (omega (arith, b, l)))
      ]
    ]

-- the words new have mark at place i, and else the marks of old
abbrev pub IsWritten : List ℕ → ℕ → Bool → List ℕ → Type 0
IsWritten old i mark new = (j : ℕ) → mark_at new j ≡ (if j == i then mark else mark_at old j)

is-itself : (old : List ℕ) (i j : ℕ) (mark : Bool) → j ≡ i → (if j == i then mark else mark_at old j) ≡ mark
is-itself old i j mark e = ap (λ b. cond b mark (mark_at old j)) (eq-eqb j i e)

is-another : (old : List ℕ) (i j : ℕ) (mark : Bool) → (j ≡ i → ⊥) → (if j == i then mark else mark_at old j) ≡ mark_at old j
is-another old i j mark apart = ap (λ b. cond b mark (mark_at old j)) (ne_eqb j i apart)

pub written-here : (old new : List ℕ) (i : ℕ) (mark : Bool) → IsWritten old i mark new → mark_at new i ≡ mark
written-here old new i mark h = h i ∙ is-itself old i i mark refl

pub written-elsewhere : (old new : List ℕ) (i j : ℕ) (mark : Bool) → IsWritten old i mark new → (j ≡ i → ⊥) → mark_at new j ≡ mark_at old j
written-elsewhere old new i j mark h apart = h j ∙ is-another old i j mark apart

-- behind the last word the mark is there
pub written-behind : (words : List ℕ) (i : ℕ) (mark : Bool) → length words ≤ i / 64 → mark ≡ true → IsWritten words i mark words
written-behind words i mark l e j =
    elim (cases_eq j i) [
      | inl same ↦ ap (mark_at words) same ∙ mark-behind words i l ∙ sym e ∙ sym (is-itself words i j mark same)
      | inr apart ↦ sym (is-another words i j mark apart)
    ]

-- a word put in place of the one that place i lies in
pub word-written : (words : List ℕ) (i word : ℕ) (mark : Bool) → i / 64 < length words
    → (bit_at word (i % 64) == 1) ≡ mark → ((k : ℕ) → k < 64 → (k ≡ i % 64 → ⊥) → bit_at word k ≡ bit_at (word_at words (i / 64)) k)
    → IsWritten words i mark (set words (i / 64) word)
word-written words i word mark l same other j =
    elim (cases_eq (j / 64) (i / 64)) [
      | inl e ↦ within e (ap (word_at (set words (i / 64) word)) e ∙ get_or-set_same words (i / 64) word all-bits l) (cases_eq (j % 64) (i % 64))
      | inr apart ↦ mark-of words (set words (i / 64) word) j j (get_or-set_other words (i / 64) (j / 64) word all-bits apart) refl ∙ sym (is-another words i j mark (λ e. apart (ap (λ x. x / 64) e)))
    ]
  where
    within : j / 64 ≡ i / 64 → word_at (set words (i / 64) word) (j / 64) ≡ word → (j % 64 ≡ i % 64) ⊎ (j % 64 ≡ i % 64 → ⊥) → mark_at (set words (i / 64) word) j ≡ (if j == i then mark else mark_at words j)
    within e here (inl f) = ap (λ w. bit_at w (j % 64) == 1) here ∙ ap (λ k. bit_at word k == 1) f ∙ same ∙ sym (is-itself words i j mark (omega (arith, e, f)))
    within e here (inr apart) =
        ap (λ w. bit_at w (j % 64) == 1) here ∙ ap (λ b. b == 1) (other (j % 64) (omega arith) apart) ∙ ap (λ k. bit_at (word_at words k) (j % 64) == 1) (sym e)
        ∙ sym (is-another words i j mark (λ g. apart (ap (λ x. x % 64) g)))

pub marks-push : (old new : List ℕ) (n : ℕ) (mark : Bool) → IsWritten old n mark new → marks new (n + 1) ≡ marks old n ++ mark ∷ []
marks-push old new n mark h =
    marks-more new n ∙ ap (λ m. marks new n ++ m ∷ []) (written-here old new n mark h)
    ∙ ap (λ ms. ms ++ mark ∷ []) (same-marks old new n (λ i l. written-elsewhere old new n i mark h (λ e. omega (arith, l, e))))

pub marks-set : (old new : List ℕ) (n i : ℕ) (mark : Bool) → i < n → IsWritten old i mark new → marks new n ≡ set (marks old n) i mark
marks-set old new n i mark l h =
    same_lists (marks new n) (set (marks old n) i mark) (length-marks new n ∙ sym (length-marks old n) ∙ sym (length-set (marks old n) i mark))
    (λ k d below. at k d (omega (arith, below, length-marks new n)))
  where
    at : (k : ℕ) (d : Bool) → k < n → get_or (marks new n) k d ≡ get_or (set (marks old n) i mark) k d
    at k d below =
        elim (cases_eq k i) [
          | inl e ↦ mark-at new n k d below ∙ ap (mark_at new) e ∙ written-here old new i mark h
              ∙ sym (ap (λ j. get_or (set (marks old n) i mark) j d) e ∙ get_or-set_same (marks old n) i mark d (omega (arith, l, length-marks old n)))
          | inr apart ↦ mark-at new n k d below ∙ written-elsewhere old new i k mark h apart
              ∙ sym (get_or-set_other (marks old n) i k mark d apart ∙ mark-at old n k d below)
        ]

pub marks-append : (old others new : List ℕ) (n m : ℕ) → ((i : ℕ) → i < n → mark_at new i ≡ mark_at old i) → ((j : ℕ) → j < m → mark_at new (n + j) ≡ mark_at others j)
    → marks new (n + m) ≡ marks old n ++ marks others m
marks-append old others new n zero h g =
    let none : n + zero ≡ n = omega arith in
    ap (marks new) none ∙ same-marks old new n h ∙ sym (append-nil (marks old n))
marks-append old others new n (suc m) h g =
    let more : n + suc m ≡ n + m + 1 = omega arith in
    let one : suc m ≡ m + 1 = omega arith in
    ap (marks new) more ∙ marks-more new (n + m)
    ∙ ap (λ k. marks new (n + m) ++ k ∷ []) (g m (omega arith))
    ∙ ap (λ ms. ms ++ mark_at others m ∷ []) (marks-append old others new n m h (λ j l. g j (omega (arith, l))))
    ∙ append_assoc (marks old n) (marks others m) (mark_at others m ∷ [])
    ∙ ap (λ ms. marks old n ++ ms) (sym (marks-more others m) ∙ ap (marks others) (sym one))

-- one more place of those that a mask goes over
pub kept-more : (mask : List Bool) (words : List ℕ) (i : ℕ) → i < length mask
    → keep (take (i + 1) mask) (marks words (i + 1)) ≡ keep (take i mask) (marks words i) ++ cond (get_or mask i false) (mark_at words i ∷ []) []
kept-more mask words i l =
    ap (λ ms. keep ms (marks words (i + 1))) (take_more mask i false l)
    ∙ ap (keep (take i mask ++ get_or mask i false ∷ [])) (marks-more words i)
    ∙ keep-snoc (take i mask) (marks words i) (get_or mask i false) (mark_at words i) (length-take-le i mask (omega (arith, l)) ∙ sym (length-marks words i))

-- what a mask keeps of places that all have a value
keep-marked_places : (mask : List Bool) → replicate (length (filter (λ marked. marked) mask)) true ≡ keep mask (replicate (length mask) true)
keep-marked_places [] = refl
keep-marked_places (true ∷ mask) = ap (λ ms. true ∷ ms) (keep-marked_places mask)
keep-marked_places (false ∷ mask) = keep-marked_places mask

-- no word: each place has a value
marks-none : (words : List ℕ) (n : ℕ) → length words ≡ 0 → marks words n ≡ replicate n true
marks-none words n none =
    same_lists (marks words n) (replicate n true) (length-marks words n ∙ sym (length-replicate n true))
    (λ k d l. let below : k < n = omega (arith, l, length-marks words n) in
    mark-at words n k d below ∙ mark-behind words k (omega (arith, none)) ∙ sym (get_or-replicate n k true d below))

pub keep-marks-none : (words : List ℕ) (mask : List Bool) → length words ≡ 0 → marks words (length (filter (λ marked. marked) mask)) ≡ keep mask (marks words (length mask))
keep-marks-none words mask none =
    marks-none words (length (filter (λ marked. marked) mask)) none ∙ keep-marked_places mask ∙ ap (keep mask) (sym (marks-none words (length mask) none))

-- the first words of a list, and of what stands behind others
front-word : (others : List ℕ) (k q : ℕ) → (q < k) ⊎ (length others ≤ q) → k ≤ length others → word_at (take k others) q ≡ word_at others q
front-word others k q (inl l) e = get_or-take k others q all-bits l
front-word others k q (inr l) e = get_or_past (take k others) q all-bits (omega (arith, l, e, length-take-le k others e)) ∙ sym (get_or_past others q all-bits l)

-- words of others put behind whole words
pub marks-joined : (front others : List ℕ) (n m k : ℕ) → n ≡ length front * 64 → k ≤ length others → (m ≤ k * 64) ⊎ (length others ≤ k)
    → marks (front ++ take k others) (n + m) ≡ marks front n ++ marks others m
marks-joined front others n m k whole few all =
    let back = take k others in
    marks-append front others (front ++ back) n m
    (λ i l. mark-of front (front ++ back) i i (get_or_append_left front back all-bits (i / 64) (omega (arith, l, whole))) refl)
    (λ j l. let place : (n + j) / 64 ≡ length front + j / 64 = omega (arith, whole) in
    mark-of others (front ++ back) (n + j) j (ap (word_at (front ++ back)) place ∙ get_or-append-add front back (j / 64) all-bits ∙ front-word others k (j / 64) (within j l) few)
    (omega (arith, whole)))
  where
    within : (j : ℕ) → j < m → (j / 64 < k) ⊎ (length others ≤ j / 64)
    within j l = elim all [
      | inl f ↦ inl (omega (arith, l, f))
      | inr f ↦ elim (cases_lt (j / 64) k) [
        | inl b ↦ inl b
        | inr b ↦ inr (omega (arith, b, f))
      ]
    ]

-- marks behind the last word of both
pub marks-behind : (words others : List ℕ) (n m : ℕ) → length words ≤ n / 64 → length others ≡ 0 → marks words (n + m) ≡ marks words n ++ marks others m
marks-behind words others n m l none =
    marks-append words others words n m (λ i b. refl)
    (λ j b. mark-behind words (n + j) (omega (arith, l)) ∙ sym (mark-behind others j (omega (arith, none))))

-- words with no bit
pub marks-zero : (words : List ℕ) (n : ℕ) → n ≤ length words * 64 → ((k d : ℕ) → k < length words → get_or words k d ≡ 0) → marks words n ≡ replicate n false
marks-zero words n room bits =
    same_lists (marks words n) (replicate n false) (length-marks words n ∙ sym (length-replicate n false))
    (λ k d l. let below : k < n = omega (arith, l, length-marks words n) in
    mark-at words n k d below ∙ ap (λ w. bit_at w (k % 64) == 1) (bits (k / 64) all-bits (omega (arith, below, room)))
    ∙ ap (λ b. b == 1) (bit_at-zero (k % 64)) ∙ sym (get_or-replicate n k false d below))
