-- What contracts see of an array, under the changes of its values and marks.
use Rattle.std.proofs.Common.{◌≡◌, ℕ, zero, suc, ◌<◌, set, refl, Bool, List, [], ◌∷◌, ◌++◌, length, take, get_or, ap, sym, ◌∙◌, Some, None, Option, replicate, true, false, arith}
use Rattle.std.specs.Prelude.{slice_get}
use Rattle.std.proofs.lemmas.List.{get_or_default}
use Rattle.fq_column.specs.Lists.{zip_with, value_if, keep}
use Rattle.fq_column.proofs.ListLemmas.{length-zip_with, zip_with-append, take-zip_with, keep-zip_with, slice_get-zip_with}
use Rattle.fq_column.proofs.SchemaLemmas.{slice_get-at}

abbrev pub array_of : {X : Type 0} → List Bool → List X → List (Option X)
array_of marks values = zip_with value_if marks values

pub length-array_of : {X : Type 0} (marks : List Bool) (values : List X) → length values ≡ length marks → length (array_of marks values) ≡ length values
length-array_of marks values e = length-zip_with value_if marks values e ∙ sym e

pub array_of-keep : {X : Type 0} (mask marks : List Bool) (values : List X) → length values ≡ length marks → array_of (keep mask marks) (keep mask values) ≡ keep mask (array_of marks values)
array_of-keep mask marks values e = sym (keep-zip_with value_if mask marks values e)

pub array_of-take : {X : Type 0} (n : ℕ) (marks : List Bool) (values : List X) → array_of (take n marks) (take n values) ≡ take n (array_of marks values)
array_of-take n marks values = sym (take-zip_with value_if n marks values)

pub array_of-append : {X : Type 0} (marks more : List Bool) (values others : List X) → length values ≡ length marks → array_of (marks ++ more) (values ++ others) ≡ array_of marks values ++ array_of more others
array_of-append marks more values others e = zip_with-append value_if marks more values others e

-- the place i of an array, by its mark and its value
pub array_of-get : {X : Type 0} (marks : List Bool) (values : List X) (i : ℕ) (mark : Bool) (x : X) → i < length values → slice_get marks i ≡ Some mark → x ≡ get_or values i x →
    slice_get (array_of marks values) i ≡ Some (value_if mark x)
array_of-get marks values i mark x h e f = slice_get-zip_with value_if marks values i mark x e (slice_get-at values i x h f)

pub array_of-none : {X : Type 0} (marks : List Bool) (values : List X) (i : ℕ) → i < length values → slice_get marks i ≡ Some false → slice_get (array_of marks values) i ≡ Some None
array_of-none marks [] i h e = absurd (omega (arith, h))
array_of-none marks (x ∷ values) i h e = array_of-get marks (x ∷ values) i false (get_or (x ∷ values) i x) h e (get_or_default (x ∷ values) i x (get_or (x ∷ values) i x) h)

-- a value put at place i
pub array_of-set : {X : Type 0} (marks : List Bool) (values : List X) (i : ℕ) (x : X) → length values ≡ length marks → array_of (set marks i true) (set values i x) ≡ set (array_of marks values) i (Some x)
array_of-set [] [] i x e = refl
array_of-set [] (y ∷ values) i x e = absurd (omega (arith, e))
array_of-set (m ∷ marks) [] i x e = absurd (omega (arith, e))
array_of-set (m ∷ marks) (y ∷ values) zero x e = refl
array_of-set (m ∷ marks) (y ∷ values) (suc i) x e = ap (λ zs. value_if m y ∷ zs) (array_of-set marks values i x (omega (arith, e)))

pub array_of-missing : {X : Type 0} (n : ℕ) (values : List X) → length values ≡ n → zip_with value_if (replicate n false) values ≡ replicate n None
array_of-missing zero [] e = refl
array_of-missing zero (x ∷ values) e = absurd (omega (arith, e))
array_of-missing (suc n) [] e = absurd (omega (arith, e))
array_of-missing (suc n) (x ∷ values) e = ap (λ xs. None ∷ xs) (array_of-missing n values (omega (arith, e)))
