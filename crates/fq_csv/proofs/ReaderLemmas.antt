-- Records that a reader gives, and their fields.
use Rattle.std.specs.Prelude.{IsAscii, IsUtf8, MatchBool, slice_get, unwrap_or}
use Rattle.std.proofs.Common.{◌≡◌, ◌<◌, ◌+◌, ◌-◌, ◌∙◌, ℕ, zero, suc, Bool, true, false, List, [], ◌∷◌, Option, Some, None, length, drop, refl, subst, sym, take, ap, arith}
use Rattle.std.proofs.lemmas.List.{get_or-drop}
use Rattle.std.proofs.lemmas.Str.{IsUtf8-from_ascii}
use Rattle.csv.specs.Reading.{Reached, ReadRecord, default_config}
use Rattle.csv.specs.Records.{AllText, cut_from, field_at}
use Rattle.csv.proofs.ReadFacts.{rows-end, rows-more}
use Rattle.fq_csv.specs.File.{Record}
use Rattle.fq_csv.specs.Readers.{HasLeft, IsPlain, records_left, retried}
use Rattle.fq_csv.specs.declared.readers.RecordReader.{RecordReader}
use Rattle.fq_csv.proofs.RecordLemmas.{left-none, left-some}

-- ---- a read of a record

module _ {R : Type 0} (remaining : R → Option (List ℕ)) where
  pub reads : (a b : RecordReader R) (found : Bool) (fields : Record) (rs : List Record) → IsPlain a → ReadRecord (retried remaining) a.reader b.reader found fields → HasLeft remaining a rs →
      MatchBool found ((rest : List Record) × (rs ≡ fields ∷ rest) × HasLeft remaining b rest) (rs ≡ [])
  unfolding Reached
  reads a b true fields rs plain r left =
      let m = rows-more (retried remaining) a.reader b.reader fields default_config a.reader.state left.0 left.0 [] plain.2 left.1 (refl, refl) r in
      let p = m.2.0 in
      let same : rs ≡ fields ∷ records_left b.reader.state m.0 =
      left.2 ∙ left-some a.reader.state left.0 p m.2.1 ∙ ap (λ f. f ∷ records_left p.1 p.2) (sym m.2.2) ∙ ap (λ s. fields ∷ records_left s p.2) m.2.3.0 ∙ ap (λ xs. fields ∷ records_left b.reader.state xs) m.2.3.1 in
      (records_left b.reader.state m.0, same, (m.0, m.1, refl))
  reads a b false fields rs plain r left = left.2 ∙ left-none a.reader.state left.0 (rows-end (retried remaining) a.reader b.reader fields default_config left.0 plain.2 left.1 r)

-- ---- a field of a record

pub field-there : (fs : Record) (i : ℕ) → field_at fs i ≡ slice_get fs i
unfolding field_at
field-there [] i = refl
field-there (f ∷ fs) zero = refl
field-there (f ∷ fs) (suc i) = field-there fs i

pub field-gone : (fs : Record) (i : ℕ) → i < length fs → field_at fs i ≡ None → ⊥
unfolding field_at
field-gone [] i h e = omega (arith, h)
field-gone (f ∷ fs) zero h e = cc e
field-gone (f ∷ fs) (suc i) h e = field-gone fs i (omega (arith, h)) e

ascii-take : (n : ℕ) (bytes : List ℕ) → IsAscii bytes → IsAscii (take n bytes)
ascii-take zero bytes h i = omega arith
ascii-take (suc n) [] h i = omega arith
ascii-take (suc n) (b ∷ bytes) h zero = h 0
ascii-take (suc n) (b ∷ bytes) h (suc i) = ascii-take n bytes (λ j. h (suc j)) i

-- each field of a record of ASCII is a text
pub ascii-fields : (start : ℕ) (ends bytes : List ℕ) → IsAscii bytes → AllText (cut_from start ends bytes)
unfolding AllText cut_from
ascii-fields start [] bytes h = tt
ascii-fields start (end ∷ ends) bytes h =
    let rest : IsAscii (drop start bytes) = λ i. rw (get_or-drop start bytes i 0) (h (start + i)) in
    (IsUtf8-from_ascii _ (ascii-take (end - start) _ rest), ascii-fields end ends bytes h)

pub field-text : (fs : Record) (i : ℕ) → AllText fs → {field : List ℕ} → field_at fs i ≡ Some field → IsUtf8 field
unfolding AllText field_at
field-text [] i all e = cc e
field-text (f ∷ fs) zero all e = subst IsUtf8 (ap (λ x. unwrap_or x f) e) all.0
field-text (f ∷ fs) (suc i) all e = field-text fs i all.1 e
