-- Fields, names and refusals.
use Rattle.std.proofs.Common.{◌≡◌, ℕ, zero, suc, ◌+◌, set, Bool, true, false, ◌||◌, List, [], ◌∷◌, ◌++◌, map, length, take, Option, Some, None, Result, Ok, Err, refl, sym, ap, subst, ◌∙◌, arith, if◌then◌else◌}
use Rattle.std.specs.Prelude.{slice_get}
use Rattle.std.specs.Result.{result_unwrap_or}
use Rattle.std.proofs.lemmas.Option.{get_or_from_slice_get, slice_get_within}
use Rattle.std.proofs.Math.Seq.{take-suc}
use Rattle.std.proofs.lemmas.List.{map-append}
use Rattle.fq_column.specs.declared.cells.Kind.{Kind}
use Rattle.fq_column.specs.declared.cells.Kind.TheVariants.{Whole}
use Rattle.fq_column.specs.declared.faults.StepFault.{StepFault}
use Rattle.fq_column.specs.declared.faults.StepFault.TheVariants.{NoSuchColumn}
use Rattle.fq_column.specs.Frame.{Field, Fields, Name, names_of, kinds_of, same_name, has_name}
use Rattle.fq_column.specs.Refusal.{first_refusal, refusal_of}
use Rattle.fq_column.specs.Schema.{fields_of, kind_named}
use Rattle.fq_ops.specs.Fields.{with_kind, Judged, refusals, settled}

-- ---- fields by names and kinds

pub fields_of-push : (names : List Name) (kinds : List Kind) (n : Name) (k : Kind) → length names ≡ length kinds → fields_of (names ++ n ∷ []) (kinds ++ k ∷ []) ≡ fields_of names kinds ++ (n, k) ∷ []
fields_of-push [] [] n k e = refl
fields_of-push [] (l ∷ kinds) n k e = absurd (omega (arith, e))
fields_of-push (m ∷ names) [] n k e = absurd (omega (arith, e))
fields_of-push (m ∷ names) (l ∷ kinds) n k e = ap (λ fs. (m, l) ∷ fs) (fields_of-push names kinds n k (omega (arith, e)))

pub fields_of-set : (names : List Name) (kinds : List Kind) (i : ℕ) (k : Kind) → length names ≡ length kinds → fields_of names (set kinds i k) ≡ with_kind i k (fields_of names kinds)
fields_of-set [] [] i k e = refl
fields_of-set [] (l ∷ kinds) i k e = absurd (omega (arith, e))
fields_of-set (m ∷ names) [] i k e = absurd (omega (arith, e))
fields_of-set (m ∷ names) (l ∷ kinds) zero k e = refl
fields_of-set (m ∷ names) (l ∷ kinds) (suc i) k e = ap (λ fs. (m, l) ∷ fs) (fields_of-set names kinds i k (omega (arith, e)))

pub field-at : (fs : Fields) (i : ℕ) (n : Name) (k : Kind) → slice_get (names_of fs) i ≡ Some n → slice_get (kinds_of fs) i ≡ Some k → slice_get fs i ≡ Some (n, k)
field-at [] i n k e g = absurd (cc)
field-at (f ∷ fs) zero n k e g = pair f n k (cc) (cc)
  where
    pair : (f : Field) (n : Name) (k : Kind) → f.0 ≡ n → f.1 ≡ k → Some f ≡ Some (n, k)
    pair f n k e g = λ i. Some (e i, g i)
field-at (f ∷ fs) (suc i) n k e g = field-at fs i n k e g

-- one more item of a list
pub take-more : {X : Type 0} (xs : List X) (i : ℕ) (x : X) → slice_get xs i ≡ Some x → take (i + 1) xs ≡ take i xs ++ x ∷ []
take-more xs i x e = ap (λ j. take j xs) (let f : i + 1 ≡ suc i = omega arith in f) ∙ take-suc xs i x (slice_get_within xs i x e) ∙ ap (λ y. take i xs ++ y ∷ []) (get_or_from_slice_get xs i x x e)

-- a name is there exactly when it has a kind
abbrev pub TellsName : Fields → Name → Result Kind StepFault → Type 0
TellsName fs n (Ok k) = has_name (names_of fs) n ≡ true
TellsName fs n (Err f) = (has_name (names_of fs) n ≡ false) × (f ≡ NoSuchColumn)

pub tells-name : (fs : Fields) (n : Name) → TellsName fs n (kind_named fs n)
tells-name [] n = (refl, refl)
tells-name (f ∷ fs) n = by (same_name n f.0) refl (tells-name fs n)
  where
    rest : (r : Result Kind StepFault) → TellsName fs n r → same_name n f.0 ≡ false → TellsName (f ∷ fs) n r
    rest (Ok k) h s = ap (λ b. b || has_name (names_of fs) n) s ∙ h
    rest (Err g) h s = (ap (λ b. b || has_name (names_of fs) n) s ∙ h.0, h.1)

    by : (b : Bool) → same_name n f.0 ≡ b → TellsName fs n (kind_named fs n) → TellsName (f ∷ fs) n (kind_named (f ∷ fs) n)
    by true s h = subst (λ b. TellsName (f ∷ fs) n (if b then Ok f.1 else kind_named fs n)) (sym s) (ap (λ b. b || has_name (names_of fs) n) s)
    by false s h = subst (λ b. TellsName (f ∷ fs) n (if b then Ok f.1 else kind_named fs n)) (sym s) (rest (kind_named fs n) h s)

-- ---- refusals

pub first_refusal-here : (xs ys : List (Option StepFault)) (f : StepFault) → first_refusal xs ≡ Some f → first_refusal (xs ++ ys) ≡ Some f
first_refusal-here [] ys f e = absurd (cc)
first_refusal-here (None ∷ xs) ys f e = first_refusal-here xs ys f e
first_refusal-here (Some g ∷ xs) ys f e = e

pub first_refusal-past : (xs ys : List (Option StepFault)) → first_refusal xs ≡ None → first_refusal (xs ++ ys) ≡ first_refusal ys
first_refusal-past [] ys e = refl
first_refusal-past (None ∷ xs) ys e = first_refusal-past xs ys e
first_refusal-past (Some g ∷ xs) ys e = absurd (cc)

module _ {X : Type 0} (judge : X → Judged) where
  abbrev judged : List X → Option StepFault
  judged xs = first_refusal (refusals (map judge xs))

  abbrev then_rest : List X → Option StepFault → Option StepFault
  then_rest xs o = first_refusal (o ∷ refusals (map judge xs))

  -- the first refusal among items is that of the first item that is refused
  pub refused-at : (xs : List X) (i : ℕ) (x : X) (f : StepFault) → slice_get xs i ≡ Some x → judged (take i xs) ≡ None → (judge x).1 ≡ Err f → judged xs ≡ Some f
  refused-at [] i x f e n j = absurd (cc)
  refused-at (y ∷ xs) zero x f e n j = let s : y ≡ x = cc in ap (λ z. then_rest xs (refusal_of (judge z).1)) s ∙ ap (λ r. then_rest xs (refusal_of r)) j
  refused-at (y ∷ xs) (suc i) x f e n j = by (refusal_of (judge y).1) refl (λ m. refused-at xs i x f e m j)
    where
      by : (o : Option StepFault) → refusal_of (judge y).1 ≡ o → (judged (take i xs) ≡ None → judged xs ≡ Some f) → judged (y ∷ xs) ≡ Some f
      by None p rest = ap (then_rest xs) p ∙ rest (ap (then_rest (take i xs)) (sym p) ∙ n)
      by (Some g) p rest = let h : Some g ≡ None = ap (then_rest (take i xs)) (sym p) ∙ n in absurd (cc)

  pushed : (xs : List X) (x : X) (k : Kind) → judged xs ≡ None → (judge x).1 ≡ Ok k → judged (xs ++ x ∷ []) ≡ None
  pushed [] x k n j = ap (λ r. then_rest [] (refusal_of r)) j
  pushed (y ∷ xs) x k n j = by (refusal_of (judge y).1) refl (λ m. pushed xs x k m j)
    where
      by : (o : Option StepFault) → refusal_of (judge y).1 ≡ o → (judged xs ≡ None → judged (xs ++ x ∷ []) ≡ None) → judged (y ∷ (xs ++ x ∷ [])) ≡ None
      by None p rest = ap (then_rest (xs ++ x ∷ [])) p ∙ rest (ap (then_rest xs) (sym p) ∙ n)
      by (Some g) p rest = let h : Some g ≡ None = ap (then_rest xs) (sym p) ∙ n in absurd (cc)

  -- one more item that is not refused
  pub passed-more : (xs : List X) (i : ℕ) (x : X) (k : Kind) → slice_get xs i ≡ Some x → judged (take i xs) ≡ None → (judge x).1 ≡ Ok k → judged (take (i + 1) xs) ≡ None
  passed-more xs i x k e n j = ap judged (take-more xs i x e) ∙ pushed (take i xs) x k n j

  pub settled-more : (xs : List X) (i : ℕ) (x : X) (k : Kind) → slice_get xs i ≡ Some x → (judge x).1 ≡ Ok k → settled (map judge (take (i + 1) xs)) ≡ settled (map judge (take i xs)) ++ ((judge x).0, k) ∷ []
  settled-more xs i x k e j =
      ap (λ l. settled (map judge l)) (take-more xs i x e) ∙ ap settled (map-append judge (take i xs) (x ∷ [])) ∙ map-append (λ p. (p.0, result_unwrap_or p.1 Whole)) (map judge (take i xs)) (judge x ∷ [])
      ∙ ap (λ r. settled (map judge (take i xs)) ++ ((judge x).0, result_unwrap_or r Whole) ∷ []) j
