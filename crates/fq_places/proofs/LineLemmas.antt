-- The lines of a file, as a reader with a buffer gives them.
use Rattle.std.proofs.Common.{◌≡◌, ◌++◌, ◌∷◌, [], ◌==◌, ◌-◌, ◌∙◌, ap, sym, ℕ, List, Option, Some, true, false, refl, arith, inl, inr, take, drop, length}
use Rattle.std.proofs.Math.Seq.{take_all}
use Rattle.std.proofs.lemmas.List.{length-drop}
use Rattle.std.specs.Io.BufRead.{take_through, drop_through}
use Rattle.std.specs.Prelude.{◌⊎◌}
use Rattle.std.specs.Io.Buffered.{reader_buffer, reader_capacity, reader_inner, reader_remaining}
use Rattle.std.specs.declared.io.buffered.BufReader.{BufReader}
use Rattle.std.proofs.lemmas.Bool.{cases_Bool}
use Rattle.std.proofs.lemmas.Bool.Decides.{nat_tests}
use Rattle.csv.specs.Reading.{is_bom, strip_bom}

-- the bytes of a line, and those after it
pub line-and-rest : (bytes : List ℕ) → take_through 10 bytes ++ drop_through 10 bytes ≡ bytes
line-and-rest [] = refl
line-and-rest (c ∷ cs) = elim (cases_Bool (c == 10)) [ inl e ↦ rw e refl | inr e ↦ rw e (ap (λ xs. c ∷ xs) (line-and-rest cs)) ]

-- no byte of a byte order mark ends a line
no-mark : (a b c : ℕ) → ((a == 10) ≡ true) ⊎ (((b == 10) ≡ true) ⊎ ((c == 10) ≡ true)) → is_bom a b c ≡ false
no-mark a b c (inl e) = let z : (a == 239) ≡ false = grind (arith, nat_tests, e) in rw z refl
no-mark a b c (inr (inl e)) = elim (cases_Bool (a == 239)) [ inl t ↦ (let z : (b == 187) ≡ false = grind (arith, nat_tests, e) in rw (t, z) refl) | inr f ↦ rw f refl ]
no-mark a b c (inr (inr e)) = elim (cases_Bool (a == 239)) [
  | inl t ↦ elim (cases_Bool (b == 187)) [ inl u ↦ (let z : (c == 191) ≡ false = grind (arith, nat_tests, e) in rw (t, u, z) refl) | inr f ↦ rw (t, f) refl ]
  | inr f ↦ rw f refl
]

-- a byte order mark is in the first line
mark-in-line : (bytes : List ℕ) → strip_bom bytes ≡ strip_bom (take_through 10 bytes) ++ drop_through 10 bytes
unfolding strip_bom
mark-in-line [] = refl
mark-in-line (a ∷ []) = elim (cases_Bool (a == 10)) [ inl e ↦ rw e refl | inr e ↦ rw e refl ]
mark-in-line (a ∷ b ∷ []) = elim (cases_Bool (a == 10)) [
  | inl e ↦ rw e refl
  | inr e ↦ elim (cases_Bool (b == 10)) [ inl f ↦ rw (e, f) refl | inr f ↦ rw (e, f) refl ]
]
mark-in-line (a ∷ b ∷ c ∷ rest) = elim (cases_Bool (a == 10)) [
  | inl e ↦ rw (e, no-mark a b c (inl e)) refl
  | inr e ↦ elim (cases_Bool (b == 10)) [
    | inl f ↦ rw (e, f, no-mark a b c (inr (inl f))) refl
    | inr f ↦ elim (cases_Bool (c == 10)) [
      | inl h ↦ rw (e, f, h, no-mark a b c (inr (inr h))) refl
      | inr h ↦ rw (e, f, h) (elim (cases_Bool (is_bom a b c)) [ inl m ↦ rw m (sym (line-and-rest rest)) | inr m ↦ rw m (ap (λ xs. a ∷ b ∷ c ∷ xs) (sym (line-and-rest rest))) ])
    ]
  ]
]

pub first-line : (bytes line : List ℕ) → line ≡ strip_bom (take_through 10 bytes) → line ++ drop_through 10 bytes ≡ strip_bom bytes
first-line bytes line e = ap (λ xs. xs ++ drop_through 10 bytes) e ∙ sym (mark-in-line bytes)

-- the bytes of a reader with a buffer, of which nothing was read
pub fresh : {R A : Type 0} (remaining : R → Option (List ℕ)) (inner : R) (r : BufReader R A) (bytes : List ℕ) → reader_inner r ≡ inner → reader_buffer r ≡ [] → reader_capacity r ≡ 8192
    → remaining inner ≡ Some bytes → reader_remaining remaining r ≡ Some bytes
fresh remaining inner r bytes same empty room known = rw (room, empty, same, known) refl

-- what is left of the bytes of a line
pub line-left : (xs ys : List ℕ) (n : ℕ) → xs ≡ ys → take (length xs - n) (drop n xs) ≡ drop n ys
line-left xs ys n e = take_all (length xs - n) (drop n xs) (omega (arith, length-drop n xs)) ∙ ap (drop n) e
