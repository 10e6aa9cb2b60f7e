-- There are as many lines on which records begin as there are records.
use Rattle.std.proofs.Common.{◌≡◌, ◌∙◌, ◌+◌, ◌==◌, ℕ, Bool, true, false, List, [], ◌∷◌, Option, Some, None, ap, arith, if◌then◌else◌, suc, inl, inr, length, not, refl, sym}
use Rattle.std.specs.Prelude.{MatchBool}
use Rattle.std.proofs.lemmas.Bool.{cases_Bool}
use Rattle.csv.specs.Machine.{Read, field_after, fields_after, is_end, next_record, step}
use Rattle.csv.specs.Reading.{default_config, records, strip_bom}
use Rattle.csv.specs.declared.parser.State.{State}
use Rattle.csv.specs.declared.parser.State.TheVariants as st
use Rattle.fq_csv.specs.Readers.{records_left}
use Rattle.fq_csv.proofs.RecordLemmas.{left-none, left-some, option-case}
use Rattle.fq_places.specs.Lines.{begins, is_between, line_after}
use Rattle.fq_places.specs.Marks.{marks_from}
use Rattle.fq_places.specs.Places.{opens}
use Rattle.fq_places.specs.Records.{lines_of, record_lines}
use Rattle.fq_places.proofs.MarkLemmas.{lines-at-end, lines-step}

abbrev one : Bool → ℕ
one true = 1
one false = 0

-- a step that ends a record leaves it; any other goes into one exactly where one begins, or was begun
abbrev Fact : State → ℕ → Type 0
Fact s c = ((step default_config s c).0 ≡ st.InComment → ⊥)
    × MatchBool (is_end (step default_config s c).1) ((is_between s ≡ false) × (is_between (step default_config s c).0 ≡ true))
    (one (begins s c) + one (not (is_between s)) ≡ one (not (is_between (step default_config s c).0)))

module _ (c : ℕ) where
  in-record : (p q r t : Bool) → (c == 13) ≡ p → (c == 10) ≡ q → (c == 34) ≡ r → (c == 44) ≡ t → Fact st.InField c
  in-record p q r true a b d e = rw e ((λ x. cc x), refl)
  in-record true q r false a b d e = rw (a, e) ((λ x. cc x), (refl, refl))
  in-record false true r false a b d e = rw (a, b, e) ((λ x. cc x), (refl, refl))
  in-record false false r false a b d e = rw (a, b, e) ((λ x. cc x), refl)

  at-field : (p q r t : Bool) → (c == 13) ≡ p → (c == 10) ≡ q → (c == 34) ≡ r → (c == 44) ≡ t → Fact st.StartField c
  at-field p q true t a b d e = rw d ((λ x. cc x), refl)
  at-field p q false true a b d e = rw (d, e) ((λ x. cc x), refl)
  at-field true q false false a b d e = rw (a, d, e) ((λ x. cc x), (refl, refl))
  at-field false true false false a b d e = rw (a, b, d, e) ((λ x. cc x), (refl, refl))
  at-field false false false false a b d e = rw (a, b, d, e) ((λ x. cc x), refl)

  after-quote : (p q r t : Bool) → (c == 13) ≡ p → (c == 10) ≡ q → (c == 34) ≡ r → (c == 44) ≡ t → Fact st.AfterQuote c
  after-quote p q true t a b d e = rw d ((λ x. cc x), refl)
  after-quote p q false true a b d e = rw (d, e) ((λ x. cc x), refl)
  after-quote true q false false a b d e = rw (a, d, e) ((λ x. cc x), (refl, refl))
  after-quote false true false false a b d e = rw (a, b, d, e) ((λ x. cc x), (refl, refl))
  after-quote false false false false a b d e = rw (a, b, d, e) ((λ x. cc x), refl)

  in-quotes : (r : Bool) → (c == 34) ≡ r → Fact st.InQuoted c
  in-quotes true d = rw d ((λ x. cc x), refl)
  in-quotes false d = rw d ((λ x. cc x), refl)

  at-start : (p q r t : Bool) → (c == 13) ≡ p → (c == 10) ≡ q → (c == 34) ≡ r → (c == 44) ≡ t → Fact st.StartRecord c
  at-start true q r t a b d e = rw a ((λ x. cc x), refl)
  at-start false true r t a b d e = rw (a, b) ((λ x. cc x), refl)
  at-start false false true t a b d e = rw (a, b, d) ((λ x. cc x), refl)
  at-start false false false true a b d e = rw (a, b, d, e) ((λ x. cc x), refl)
  at-start false false false false a b d e = rw (a, b, d, e) ((λ x. cc x), refl)

  after-return : (p q r t : Bool) → (c == 13) ≡ p → (c == 10) ≡ q → (c == 34) ≡ r → (c == 44) ≡ t → Fact st.AfterCr c
  after-return true true r t a b d e = rw (a, b) ((λ x. cc x), refl)
  after-return true false r t a b d e = rw (a, b) ((λ x. cc x), refl)
  after-return false true r t a b d e = rw (a, b) ((λ x. cc x), refl)
  after-return false false true t a b d e = rw (a, b, d) ((λ x. cc x), refl)
  after-return false false false true a b d e = rw (a, b, d, e) ((λ x. cc x), refl)
  after-return false false false false a b d e = rw (a, b, d, e) ((λ x. cc x), refl)

  fact : (s : State) → (s ≡ st.InComment → ⊥) → Fact s c
  fact st.StartRecord n = at-start (c == 13) (c == 10) (c == 34) (c == 44) refl refl refl refl
  fact st.StartField n = at-field (c == 13) (c == 10) (c == 34) (c == 44) refl refl refl refl
  fact st.InField n = in-record (c == 13) (c == 10) (c == 34) (c == 44) refl refl refl refl
  fact st.InQuoted n = in-quotes (c == 34) refl
  fact st.AfterQuote n = after-quote (c == 13) (c == 10) (c == 34) (c == 44) refl refl refl refl
  fact st.InEscape n = ((λ x. cc x), refl)
  fact st.InComment n = absurd (n refl)
  fact st.AfterCr n = after-return (c == 13) (c == 10) (c == 34) (c == 44) refl refl refl refl

-- how many records a read and those after it are
abbrev counted : Option Read → ℕ
counted None = 0
counted (Some p) = suc (length (records_left p.1 p.2))

left-counted : (s : State) (xs : List ℕ) → length (records_left s xs) ≡ counted (next_record default_config s [] [] xs)
left-counted s xs = elim (option-case (next_record default_config s [] [] xs)) [
  | inl e ↦ ap length (left-none s xs e) ∙ sym (ap counted e)
  | inr (p, e) ↦ ap length (left-some s xs p e) ∙ sym (ap counted e)
]

ends-counted : (s : State) (fields : List (List ℕ)) (field : List ℕ) → (s ≡ st.InComment → ⊥) → counted (next_record default_config s fields field []) ≡ one (not (is_between s))
unfolding next_record
ends-counted st.StartRecord fields field n = refl
ends-counted st.AfterCr fields field n = refl
ends-counted st.StartField fields field n = ap (λ rs. suc (length rs)) (left-none st.StartRecord [] refl)
ends-counted st.InField fields field n = ap (λ rs. suc (length rs)) (left-none st.StartRecord [] refl)
ends-counted st.InQuoted fields field n = ap (λ rs. suc (length rs)) (left-none st.StartRecord [] refl)
ends-counted st.AfterQuote fields field n = ap (λ rs. suc (length rs)) (left-none st.StartRecord [] refl)
ends-counted st.InEscape fields field n = ap (λ rs. suc (length rs)) (left-none st.StartRecord [] refl)
ends-counted st.InComment fields field n = absurd (n refl)

lines-counted : (s : State) (line quote c : ℕ) (cs : List ℕ) → length (lines_of (marks_from s line quote (c ∷ cs)))
    ≡ one (begins s c) + length (lines_of (marks_from (step default_config s c).0 (line_after line c) (if opens s c then line else quote) cs))
lines-counted s line quote c cs =
    let step = ap length (lines-step s line quote c cs) in
    elim (cases_Bool (begins s c)) [ inl e ↦ rw e (omega (arith, rw e at step)) | inr e ↦ rw e (omega (arith, rw e at step)) ]

all-counted : (xs : List ℕ) (s : State) (fields : List (List ℕ)) (field : List ℕ) (line quote : ℕ) → (s ≡ st.InComment → ⊥)
    → counted (next_record default_config s fields field xs) ≡ length (lines_of (marks_from s line quote xs)) + one (not (is_between s))
unfolding next_record
all-counted [] s fields field line quote n = let end = ends-counted s fields field n in let none = ap length (lines-at-end s line quote) in omega (arith, end, none)
all-counted (c ∷ cs) s fields field line quote n =
    let f = fact c s n in
    let next = (step default_config s c).0 in
    let opened = if opens s c then line else quote in
    let lines = lines-counted s line quote c cs in
    elim (cases_Bool (is_end (step default_config s c).1)) [
      | inl e ↦
          let ends : (is_between s ≡ false) × (is_between next ≡ true) = rw e at f.1 in
          let after = left-counted next cs ∙ all-counted cs next [] [] (line_after line c) opened f.0 in
          let none : one (begins s c) ≡ 0 = rw ends.0 refl in
          let in_one : one (not (is_between s)) ≡ 1 = rw ends.0 refl in
          let in_none : one (not (is_between next)) ≡ 0 = rw ends.1 refl in
          rw e (omega (arith, lines, after, none, in_one, in_none))
      | inr e ↦
          let goes : one (begins s c) + one (not (is_between s)) ≡ one (not (is_between next)) = rw e at f.1 in
          let after = all-counted cs next (fields_after (step default_config s c).1 fields field) (field_after (step default_config s c).1 c field) (line_after line c) opened f.0 in
          rw e (omega (arith, lines, after, goes))
    ]

pub as-many-lines : (bytes : List ℕ) → length (record_lines bytes) ≡ length (records default_config (strip_bom bytes))
as-many-lines bytes =
    let all = left-counted st.StartRecord (strip_bom bytes) ∙ all-counted (strip_bom bytes) st.StartRecord [] [] 1 1 (λ x. cc x) in
    omega (arith, all)
