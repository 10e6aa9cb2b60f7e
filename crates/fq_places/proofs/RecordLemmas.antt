-- The records that a reader of the `csv` crate gives.
use Rattle.std.specs.Prelude.{slice_get}
use Rattle.std.proofs.Common.{◌≡◌, ◌<◌, ◌-◌, ◌+◌, ℕ, suc, List, [], ◌∷◌, Some, None, refl, arith}
use Rattle.fq_csv.specs.File.{Record}

-- the record of a number, once the first of those that are left was read
pub later : (rs rest : List Record) (fields : Record) (number i : ℕ) → i < number → rs ≡ fields ∷ rest → slice_get rs (number - i) ≡ slice_get rest (number - (i + 1))
later rs rest fields number i below e =
    let n : number - i ≡ suc (number - (i + 1)) = omega (arith, below) in
    rw (e, n) refl

pub first : (rs rest : List Record) (fields : Record) (n : ℕ) → n ≡ 0 → rs ≡ fields ∷ rest → slice_get rs n ≡ Some fields
first rs rest fields n zero e = rw (e, zero) refl

pub none-left : (rs : List Record) (n : ℕ) → rs ≡ [] → slice_get rs n ≡ None
none-left rs n e = rw e refl
