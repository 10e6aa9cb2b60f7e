-- The names of a schema, and the fields of a record.
use Rattle.std.specs.Prelude.{slice_get, nat_eq, option_map}
use Rattle.std.proofs.Common.{◌≡◌, ◌≢◌, ◌<◌, ℕ, zero, suc, ◌++◌, ◌∙◌, ap, List, [], ◌∷◌, Bool, true, false, Option, Some, length, refl, sym, arith, inl, inr}
use Rattle.std.specs.Prelude.{not}
use Rattle.std.specs.Cmp.Lexicographic.{pointwise, bytes_decides}
use Rattle.std.proofs.lemmas.Bool.{cases_Bool, false_from_ne_true}
use Rattle.std.proofs.Math.Bool.{and-false}
use Rattle.fq_column.specs.Frame.{Name, same_name}
use Rattle.csv.specs.Reading.{default_config, records}
use Rattle.fq_column.specs.Frame.{Fields, names_of}
use Rattle.fq_csv.specs.File.{Record}
use Rattle.fq_csv.specs.RecordScan.{OpensBy}
use Rattle.fq_csv.specs.Records.{Takes, Unread}
use Rattle.fq_csv.specs.Taking.{records_after, records_under_header}

abbrev pub same_names : List Name → Record → Bool
same_names names fs = pointwise same_name names fs

-- the names below i are the fields below i
abbrev pub SameBelow : List Name → Record → ℕ → Type 0
SameBelow names fs i = (k : ℕ) → k < i → slice_get names k ≡ slice_get fs k

pub names-same : (names : List Name) (fs : Record) → length fs ≡ length names → SameBelow names fs (length names) → true ≡ same_names names fs
names-same [] [] e h = refl
names-same [] (f ∷ fs) e h = absurd (omega (arith, e))
names-same (x ∷ xs) [] e h = absurd (omega (arith, e))
names-same (x ∷ xs) (f ∷ fs) e h =
    let first : ◌≡◌ {A = Option Name} (Some x) (Some f) = h 0 (omega arith) in
    let here : x ≡ f = cc in
    let more = names-same xs fs (omega (arith, e)) (λ k l. h (suc k) (omega (arith, l))) in
    rw (sym more, (bytes_decides x f).1 here) refl

pub names-other : (names : List Name) (fs : Record) (i : ℕ) (x f : List ℕ) → slice_get names i ≡ Some x → Some f ≡ slice_get fs i → f ≢ x → false ≡ same_names names fs
names-other [] fs i x f h e n = cc h
names-other (y ∷ ys) [] i x f h e n = cc e
names-other (y ∷ ys) (g ∷ gs) zero x f h e n =
    let b : same_name y g ≡ false = false_from_ne_true _ (λ t. n (cc ((bytes_decides y g).0 t, h, e))) in
    rw b refl
names-other (y ∷ ys) (g ∷ gs) (suc i) x f h e n = rw (sym (names-other ys gs i x f h e n)) (sym (and-false (same_name y g)))

pub bytes-differ : (x y : List ℕ) → true ≡ not (pointwise nat_eq x y) → x ≢ y
bytes-differ x y t e = let h = (bytes_decides x y).1 e in cc (rw h at t)

pub bytes-same : (x y : List ℕ) → false ≡ not (pointwise nat_eq x y) → x ≡ y
bytes-same x y t = elim (cases_Bool (pointwise nat_eq x y)) [ inl h ↦ (bytes_decides x y).0 h | inr h ↦ cc (rw h at t) ]

-- ---- the header

pub only-one : (rs : List Record) → length rs ≡ 1 → (r : Record) × (rs ≡ r ∷ [])
only-one [] e = absurd (omega (arith, e))
only-one (r ∷ []) e = (r, refl)
only-one (r ∷ x ∷ rs) e = absurd (omega (arith, e))

pub opens : (fields : Fields) (old new : Unread) (text : List ℕ) (count : ℕ) → Takes old 1 text count new → count ≡ 1 → (is : Bool)
    → ((r : Record) → records default_config text ≡ r ∷ [] → is ≡ same_names (names_of fields) r) → OpensBy fields old new is
opens fields old new text count t one true same = λ limit before e.
    let r = t.rest before e in
    let first = only-one (records default_config text) (t.number ∙ one) in
    let all : before ≡ first.0 ∷ r.0 = r.2 ∙ ap (λ xs. xs ++ r.0) first.1 in
    ap (option_map (records_after old.file limit 0)) r.1 ∙ sym (ap (λ rs. Some (records_under_header old.file fields limit rs)) all ∙ rw (sym (same first.0 first.1)) refl)
opens fields old new text count t one false same = λ limit before e.
    let r = t.rest before e in
    let first = only-one (records default_config text) (t.number ∙ one) in
    let all : before ≡ first.0 ∷ r.0 = r.2 ∙ ap (λ xs. xs ++ r.0) first.1 in
    ap (records_under_header old.file fields limit) all ∙ rw (sym (same first.0 first.1)) refl
