-- The kinds of columns with their notations.
use Rattle.std.proofs.Common.{◌≡◌, ℕ, zero, suc, List, [], ◌∷◌, Some, ap, length, refl}
use Rattle.std.specs.Prelude.{slice_get, slice_index_or}
use Rattle.fq_column.specs.declared.cells.Kind.{Kind}
use Rattle.fq_notation.specs.declared.notations.Notation.{Notation}
use Rattle.fq_notation.specs.declared.notations.Notation.TheVariants.{Plain}
use Rattle.fq_csv.specs.File.{noted}

pub length-noted : (ns : List Notation) (kinds : List Kind) → length (noted ns kinds) ≡ length kinds
length-noted ns [] = refl
length-noted [] (k ∷ kinds) = ap suc (length-noted [] kinds)
length-noted (n ∷ ns) (k ∷ kinds) = ap suc (length-noted ns kinds)

-- the kind and the notation of the column at a place
pub noted-at : (ns : List Notation) (kinds : List Kind) (i : ℕ) (k : Kind) → slice_get kinds i ≡ Some k → slice_get (noted ns kinds) i ≡ Some (k, slice_index_or ns i Plain)
noted-at ns [] i k e = absurd (cc)
noted-at [] (j ∷ kinds) zero k e = let same : j ≡ k = cc in rw same refl
noted-at (n ∷ ns) (j ∷ kinds) zero k e = let same : j ≡ k = cc in rw same refl
noted-at [] (j ∷ kinds) (suc i) k e = noted-at [] kinds i k e
noted-at (n ∷ ns) (j ∷ kinds) (suc i) k e = noted-at ns kinds i k e
