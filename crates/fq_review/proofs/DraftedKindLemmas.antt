-- Each field of a column is a cell of the kind that they draft.
use Rattle.std.proofs.Common.{◌≡◌, ℕ, zero, suc, ap, arith, Bool, true, false, List, [], ◌∷◌, Option, Some, None, inl, inr, refl, subst, sym}
use Rattle.std.specs.Prelude.{◌⊎◌, ℤ, All, is_some}
use Rattle.std.specs.Str.{is_utf8}
use Rattle.std.proofs.lemmas.Option.{same_Some}
use Rattle.fq_column.specs.declared.cells.Kind.{Kind}
use Rattle.fq_column.specs.declared.cells.Kind.TheVariants as kind
use Rattle.fq_notation.specs.Digits.{whole_of}
use Rattle.fq_notation.specs.Notation.{int_under}
use Rattle.fq_notation.specs.declared.notations.Notation.{Notation}
use Rattle.fq_notation.specs.declared.notations.Notation.TheVariants.{Plain, Decimal, Date}
use Rattle.fq_csv.specs.Field.{cell_under, is_null, is_one_of, truth_of}
use Rattle.fq_review.specs.Drafted.{drafted_kind, is_int, is_printed, joined, joined_kind, kind_alone, kind_of_nulls}

-- a part of a column says no other kind
abbrev Within : Kind → Option Kind → Type 0
Within k o = (o ≡ None) ⊎ ((o ≡ Some k) ⊎ (k ≡ kind.Text))

mixed : (k : Kind) (a b : Option Kind) → Within k (Some kind.Text) → Within k a × Within k b
mixed k a b (inl e) = absurd (cc)
mixed k a b (inr (inl e)) = let text = sym (same_Some _ _ e) in (inr (inr text), inr (inr text))
mixed k a b (inr (inr text)) = (inr (inr text), inr (inr text))

parts : (k : Kind) (a b : Option Kind) → Within k (joined a b) → Within k a × Within k b
parts k None b h = (inl refl, h)
parts k (Some a) None h = (h, inl refl)
parts k (Some kind.Whole) (Some kind.Whole) h = (h, h)
parts k (Some kind.Whole) (Some kind.Truth) h = mixed k (Some kind.Whole) (Some kind.Truth) h
parts k (Some kind.Whole) (Some kind.Text) h = mixed k (Some kind.Whole) (Some kind.Text) h
parts k (Some kind.Truth) (Some kind.Whole) h = mixed k (Some kind.Truth) (Some kind.Whole) h
parts k (Some kind.Truth) (Some kind.Truth) h = (h, h)
parts k (Some kind.Truth) (Some kind.Text) h = mixed k (Some kind.Truth) (Some kind.Text) h
parts k (Some kind.Text) (Some kind.Whole) h = mixed k (Some kind.Text) (Some kind.Whole) h
parts k (Some kind.Text) (Some kind.Truth) h = mixed k (Some kind.Text) (Some kind.Truth) h
parts k (Some kind.Text) (Some kind.Text) h = mixed k (Some kind.Text) (Some kind.Text) h

-- a field that is an int as a column has them is one by its notation
int-read : (notation : Notation) (field : List ℕ) → is_int notation field ≡ true → is_some (int_under notation field) ≡ true
int-read Plain field is = by (whole_of field) refl
  where
    by : (o : Option ℤ) → whole_of field ≡ o → is_some (whole_of field) ≡ true
    by None e = absurd (let bad : is_printed field ≡ false = rw (e, is_printed) refl in cc)
    by (Some z) e = rw e refl
int-read (Decimal scale) field is = is
int-read Date field is = is

module _ (nulls : List (List ℕ)) (notation : Notation) where
  abbrev Reads : Kind → List ℕ → Type 0
  Reads k field = is_some (cell_under nulls k notation field) ≡ true

  empty-reads : (k : Kind) (b : Bool) → is_one_of nulls [] ≡ b → Reads k []
  empty-reads k true e = rw e refl
  empty-reads kind.Whole false e = rw e refl
  empty-reads kind.Truth false e = rw e refl
  empty-reads kind.Text false e = rw e refl

  null-reads : (k : Kind) (field : List ℕ) → is_null nulls field ≡ true → Reads k field
  null-reads k [] e = empty-reads k (is_one_of nulls []) refl
  null-reads k (c ∷ cs) e = rw e refl

  text-reads : (field : List ℕ) → is_utf8 field ≡ true → Reads kind.Text field
  text-reads [] utf8 = empty-reads kind.Text (is_one_of nulls []) refl
  text-reads (c ∷ cs) utf8 = by (is_one_of nulls (c ∷ cs)) refl
    where
      by : (b : Bool) → is_one_of nulls (c ∷ cs) ≡ b → Reads kind.Text (c ∷ cs)
      by true e = rw e refl
      by false e = rw (e, utf8) refl

  -- a field by itself
  module _ (k : Kind) (c : ℕ) (cs : List ℕ) (some : is_one_of nulls (c ∷ cs) ≡ false) (utf8 : is_utf8 (c ∷ cs) ≡ true) (alone : kind_alone nulls notation (c ∷ cs) ≡ Some k) where
    abbrev field : List ℕ
    field = c ∷ cs

    text-alone : is_int notation field ≡ false → is_some (truth_of field) ≡ false → Reads k field
    text-alone whole truth =
        let same : kind_alone nulls notation field ≡ Some kind.Text = rw (some, whole, truth) refl in
        let text : k ≡ kind.Text = same_Some _ _ (let e : Some k ≡ Some kind.Text = cc in e) in
        subst (λ j. Reads j field) (sym text) (text-reads field utf8)

    truth-alone : is_int notation field ≡ false → (o : Option Bool) → truth_of field ≡ o → Reads k field
    truth-alone whole None e = text-alone whole (rw e refl)
    truth-alone whole (Some b) e =
        let there : is_some (truth_of field) ≡ true = rw e refl in
        let same : kind_alone nulls notation field ≡ Some kind.Truth = rw (some, whole, there) refl in
        let truth : k ≡ kind.Truth = same_Some _ _ (let f : Some k ≡ Some kind.Truth = cc in f) in
        subst (λ j. Reads j field) (sym truth) (rw (some, e) refl)

    whole-alone : (b : Bool) → is_int notation field ≡ b → (o : Option ℤ) → int_under notation field ≡ o → Reads k field
    whole-alone false i o e = truth-alone i (truth_of field) refl
    whole-alone true i None e = absurd (let is : is_some (int_under notation field) ≡ true = int-read notation field i in let bad : is_some (int_under notation field) ≡ false = rw e refl in cc)
    whole-alone true i (Some z) e =
        let same : kind_alone nulls notation field ≡ Some kind.Whole = rw (some, i) refl in
        let whole : k ≡ kind.Whole = same_Some _ _ (let f : Some k ≡ Some kind.Whole = cc in f) in
        subst (λ j. Reads j field) (sym whole) (rw (some, e) refl)

  alone-reads : (k : Kind) (field : List ℕ) → is_utf8 field ≡ true → kind_alone nulls notation field ≡ Some k → Reads k field
  alone-reads k [] utf8 e = absurd (cc)
  alone-reads k (c ∷ cs) utf8 e = by (is_one_of nulls (c ∷ cs)) refl
    where
      by : (b : Bool) → is_one_of nulls (c ∷ cs) ≡ b → Reads k (c ∷ cs)
      by true n = absurd (let none : kind_alone nulls notation (c ∷ cs) ≡ None = rw n refl in cc)
      by false n = whole-alone k c cs n utf8 e (is_int notation (c ∷ cs)) refl (int_under notation (c ∷ cs)) refl

  none-is-null : (field : List ℕ) → kind_alone nulls notation field ≡ None → is_null nulls field ≡ true
  none-is-null field e = by (is_null nulls field) (is_int notation field) (is_some (truth_of field)) refl refl refl
    where
      by : (n i t : Bool) → is_null nulls field ≡ n → is_int notation field ≡ i → is_some (truth_of field) ≡ t → is_null nulls field ≡ true
      by true i t a b c = a
      by false true t a b c = absurd (let some : kind_alone nulls notation field ≡ Some kind.Whole = rw (a, b) refl in cc)
      by false false true a b c = absurd (let some : kind_alone nulls notation field ≡ Some kind.Truth = rw (a, b, c) refl in cc)
      by false false false a b c = absurd (let some : kind_alone nulls notation field ≡ Some kind.Text = rw (a, b, c) refl in cc)

  one-reads : (k : Kind) (field : List ℕ) → Within k (kind_alone nulls notation field) → is_utf8 field ≡ true → Reads k field
  one-reads k field (inl none) utf8 = null-reads k field (none-is-null field none)
  one-reads k field (inr (inl e)) utf8 = alone-reads k field utf8 e
  one-reads k field (inr (inr text)) utf8 = subst (λ j. Reads j field) (sym text) (text-reads field utf8)

  all-read : (k : Kind) (fields : List (List ℕ)) → Within k (joined_kind nulls notation fields) → All (λ f. is_utf8 f ≡ true → Reads k f) fields
  all-read k [] h i d less = absurd (omega (arith, less))
  all-read k (f ∷ fields) h zero d less = one-reads k f (parts k (kind_alone nulls notation f) (joined_kind nulls notation fields) h).0
  all-read k (f ∷ fields) h (suc i) d less = all-read k fields (parts k (kind_alone nulls notation f) (joined_kind nulls notation fields) h).1 i d (omega (arith, less))

at-kind : (nulls : List (List ℕ)) (notation : Notation) (fields : List (List ℕ)) (k : Kind) → drafted_kind nulls notation fields ≡ k → Within k (joined_kind nulls notation fields)
    → All (λ field. is_utf8 field ≡ true → is_some (cell_under nulls (drafted_kind nulls notation fields) notation field) ≡ true) fields
at-kind nulls notation fields k e h = subst (λ j. All (λ field. is_utf8 field ≡ true → is_some (cell_under nulls j notation field) ≡ true) fields) (sym e) (all-read nulls notation k fields h)

pub drafted-read : (nulls : List (List ℕ)) (notation : Notation) (fields : List (List ℕ)) →
    All (λ field. is_utf8 field ≡ true → is_some (cell_under nulls (drafted_kind nulls notation fields) notation field) ≡ true) fields
drafted-read nulls notation fields = by (joined_kind nulls notation fields) refl
  where
    by : (o : Option Kind) → joined_kind nulls notation fields ≡ o →
        All (λ field. is_utf8 field ≡ true → is_some (cell_under nulls (drafted_kind nulls notation fields) notation field) ≡ true) fields
    by None e = at-kind nulls notation fields (kind_of_nulls notation) (ap (λ p. elim p as (λ _. Kind) [ None ↦ kind_of_nulls notation | Some k ↦ k ]) e) (inl e)
    by (Some k) e = at-kind nulls notation fields k (ap (λ p. elim p as (λ _. Kind) [ None ↦ kind_of_nulls notation | Some j ↦ j ]) e) (inr (inl e))
