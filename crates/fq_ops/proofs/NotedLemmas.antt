-- The right columns of a join, each with its notation.
use Rattle.std.proofs.Common.{◌≡◌, ◌++◌, ◌+◌, ◌∷◌, [], ◌∙◌, ℕ, zero, suc, drop, List, Some, Result, Ok, ap, arith, refl, sym, false, slice_get, slice_index_or}
use Rattle.fq_column.specs.Frame.{Field, Fields, Name, has_name}
use Rattle.fq_notation.specs.Naming.{before_all, renamed_noted}
use Rattle.fq_notation.specs.Notation.{Named, notation_in}
use Rattle.fq_notation.specs.declared.naming.StepUnnoted.{StepUnnoted}
use Rattle.fq_notation.specs.declared.naming.Said.{Said}
use Rattle.fq_notation.specs.declared.naming.Said.TheVariants.{Nothing}
use Rattle.fq_notation.specs.declared.notations.Notation.{Notation}
use Rattle.fq_ops.specs.Join.{right_name}
use Rattle.fq_notation.proofs.NamingLemmas.{before_all_append}
use Rattle.fq_ops.specs.Noted.{right_noted}

some_is : {X : Type 0} (y x : X) → Some y ≡ Some x → y ≡ x
some_is y x e = cc

-- what is left of a list from a place on
pub drop_more : {X : Type 0} (xs : List X) (i : ℕ) (x : X) → slice_get xs i ≡ Some x → drop i xs ≡ x ∷ drop (i + 1) xs
drop_more [] i x e = absurd (cc)
drop_more (y ∷ xs) zero x e = ap (λ z. z ∷ xs) (some_is y x e)
drop_more (y ∷ xs) (suc i) x e = drop_more xs i x e ∙ ap (λ j. x ∷ drop j (y ∷ xs)) (let f : suc (i + 1) ≡ suc i + 1 = omega arith in f)

right_noted_step : (fields : Fields) (right_named : List Named) (said : List Said) (on : List Name) (n : ℕ) (f : Field) (fs : Fields) (m : Notation) → has_name on f.0 ≡ false → renamed_noted (slice_index_or said n Nothing) (notation_in right_named f) ≡ Ok m → right_noted fields right_named said on n (f ∷ fs) ≡ before_all ((right_name fields f.0, m) ∷ []) (right_noted fields right_named said on (n + 1) fs)
right_noted_step fields right_named said on n f fs m is_other is_noted = rw is_other (rw is_noted refl)

-- one more right column of a join, which is no key
pub right_noted_more : (fields : Fields) (right_named : List Named) (said : List Said) (on : List Name) (n : ℕ) (f : Field) (fs : Fields) (m : Notation) (made : List Named) (whole : Result (List Named) StepUnnoted) → whole ≡ before_all made (right_noted fields right_named said on n (f ∷ fs)) → has_name on f.0 ≡ false → renamed_noted (slice_index_or said n Nothing) (notation_in right_named f) ≡ Ok m → whole ≡ before_all (made ++ (right_name fields f.0, m) ∷ []) (right_noted fields right_named said on (n + 1) fs)
right_noted_more fields right_named said on n f fs m made whole e is_other is_noted =
    e ∙ ap (λ r. before_all made r) (right_noted_step fields right_named said on n f fs m is_other is_noted) ∙ sym (before_all_append made ((right_name fields f.0, m) ∷ []) (right_noted fields right_named said on (n + 1) fs))
