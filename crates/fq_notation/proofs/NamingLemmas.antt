-- Lists of names with their notations, joined.
use Rattle.std.proofs.Common.{◌≡◌, ◌++◌, List, Result, Ok, Err, ap, refl, append_assoc}
use Rattle.fq_notation.specs.Notation.{Named}
use Rattle.fq_notation.specs.Naming.{before_all}
use Rattle.fq_notation.specs.declared.naming.StepUnnoted.{StepUnnoted}

pub before_all_append : (xs ys : List Named) (r : Result (List Named) StepUnnoted) → before_all (xs ++ ys) r ≡ before_all xs (before_all ys r)
before_all_append xs ys (Ok zs) = ap Ok (append_assoc xs ys zs)
before_all_append xs ys (Err why) = refl
