-- The records of a text, one at a time.
use Rattle.std.specs.Prelude.{option_map}
use Rattle.std.proofs.Common.{◌≡◌, ◌<◌, ◌+◌, ◌⊎◌, inl, inr, ℕ, zero, suc, List, [], ◌∷◌, false, ◌==◌, Option, Some, None, refl, ap, arith, ◌∙◌, length, add-one}
use Rattle.std.proofs.lemmas.Bool.{cases_Bool}
use Rattle.std.proofs.lemmas.Bool.Decides.{nat_tests}
use Rattle.csv.specs.Machine.{Read, next_record, step, is_end, fields_after, field_after, ends_at_end}
use Rattle.csv.specs.Reading.{default_config, records, records_from}
use Rattle.csv.specs.declared.parser.Config.{Config}
use Rattle.csv.specs.declared.parser.State.{State}
use Rattle.csv.specs.declared.parser.State.TheVariants as st
use Rattle.fq_csv.specs.Cutting.{IsBetween, next_of}

-- the records of the bytes that are left, from a state of the parser
abbrev pub records_left : State → List ℕ → List (List (List ℕ))
records_left s bytes = records_from default_config (length bytes + 1) s bytes

-- a record takes bytes, or is the last one of an empty rest
next-shorter : (cfg : Config) (s : State) (fields : List (List ℕ)) (field xs : List ℕ) (p : Read) → next_record cfg s fields field xs ≡ Some p
    → (length p.2 < length xs) ⊎ ((p.1 ≡ st.StartRecord) × (p.2 ≡ []))
unfolding next_record
next-shorter cfg s fields field [] p e =
    elim (cases_Bool (ends_at_end s)) [
      | inl t ↦ let q = rw t at e in inr (cc, cc)
      | inr f ↦ let q = rw f at e in absurd (cc q)
    ]
next-shorter cfg s fields field (c ∷ rest) p e =
    elim (cases_Bool (is_end (step cfg s c).1)) [
      | inl t ↦ let q = rw t at e in let r : p.2 ≡ rest = cc in inl (rw r (omega arith))
      | inr f ↦ elim (next-shorter cfg (step cfg s c).0 (fields_after (step cfg s c).1 fields field) (field_after (step cfg s c).1 c field) rest p (rw f at e)) [
        | inl l ↦ inl (omega arith)
        | inr n ↦ inr n
      ]
    ]

-- nothing is left at the start of a record with no byte after it
none-left : (cfg : Config) (n : ℕ) → records_from cfg n st.StartRecord [] ≡ []
unfolding records_from next_record
none-left cfg zero = refl
none-left cfg (suc n) = refl

pub option-case : {A : Type 0} (o : Option A) → (o ≡ None) ⊎ ((p : A) × (o ≡ Some p))
option-case None = inl refl
option-case (Some p) = inr (p, refl)

-- more turns than bytes give all records
enough : (cfg : Config) (n m : ℕ) (s : State) (xs : List ℕ) → length xs < n → length xs < m → records_from cfg n s xs ≡ records_from cfg m s xs
unfolding records_from
enough cfg zero m s xs a b = absurd (omega arith)
enough cfg (suc n) zero s xs a b = absurd (omega arith)
enough cfg (suc n) (suc m) s xs a b =
    elim (option-case (next_record cfg s [] [] xs)) [
      | inl e ↦ rw e refl
      | inr (p, e) ↦ rw e (elim (next-shorter cfg s [] [] xs p e) [
        | inl l ↦ ap (λ (t : List (List (List ℕ))). p.0 ∷ t) (enough cfg n m p.1 p.2 (omega arith) (omega arith))
        | inr z ↦ rw (z.0, z.1, none-left cfg n, none-left cfg m) refl
      ])
    ]

-- the records that are left, if there is a next one
pub left-some : (s : State) (xs : List ℕ) (p : Read) → next_record default_config s [] [] xs ≡ Some p → records_left s xs ≡ p.0 ∷ records_left p.1 p.2
unfolding records_from next_record
left-some s xs p e = rw (add-one, e) (elim (next-shorter default_config s [] [] xs p e) [
  | inl l ↦ ap (λ (t : List (List (List ℕ))). p.0 ∷ t) (enough default_config (length xs) (length p.2 + 1) p.1 p.2 (omega arith) (omega arith))
  | inr z ↦ rw (z.0, z.1, none-left default_config (length xs)) refl
])

pub left-none : (s : State) (xs : List ℕ) → next_record default_config s [] [] xs ≡ None → records_left s xs ≡ []
unfolding records_from
left-none s xs e = rw (add-one, e) refl

-- after a line's end the next record is as at the start
between-alike : (s : State) (xs : List ℕ) → IsBetween s → next_record default_config s [] [] xs ≡ next_of xs
unfolding next_record
between-alike s xs (inl e) = rw e refl
between-alike s [] (inr e) = rw e refl
between-alike s (c ∷ rest) (inr e) = rw e (elim (cases_Bool (c == 10)) [
  | inl t ↦ let z : (c == 13) ≡ false = grind (arith, nat_tests, t) in rw (t, z) refl
  | inr n ↦ rw n refl
])

records_between : (s : State) (xs : List ℕ) → IsBetween s → records_left s xs ≡ records default_config xs
unfolding records_from
records_between s xs b = rw (add-one, between-alike s xs b) refl

-- the first record of a text, and the others
pub first-record : (xs rest : List ℕ) (fields : List (List ℕ)) (s : State) → next_of xs ≡ Some (fields, s, rest) → IsBetween s → records default_config xs ≡ fields ∷ records default_config rest
first-record xs rest fields s e b = left-some st.StartRecord xs (fields, s, rest) e ∙ ap (λ rs. fields ∷ rs) (records_between s rest b)

pub none-record : (xs : List ℕ) → next_of xs ≡ None → records default_config xs ≡ []
none-record xs e = left-none st.StartRecord xs e

-- what was mapped
pub mapped : {A B : Type 0} (f : A → B) (o : Option A) (v : B) → option_map f o ≡ Some v → (y : A) × (o ≡ Some y) × (v ≡ f y)
mapped f None v e = cc e
mapped f (Some y) v e = (y, refl, cc)
