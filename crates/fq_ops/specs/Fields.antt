-- Words on the fields of a schema to be.
use Rattle.std.specs.Prelude.{◌≡◌, Some, ℕ, zero, suc, List, [], ◌∷◌, map, not, Option, Result}
use Rattle.std.specs.Result.{result_unwrap_or}
use Rattle.fq_column.specs.declared.cells.Kind.{Kind}
use Rattle.fq_column.specs.declared.cells.Kind.TheVariants.{Whole}
use Rattle.fq_column.specs.declared.faults.StepFault.{StepFault}
use Rattle.fq_column.specs.declared.faults.StepFault.TheVariants.{DoubleName}
use Rattle.fq_column.specs.Frame.{Fields, Name, names_of, position_of, same_name}
use Rattle.fq_column.specs.Lists.{is_distinct}
use Rattle.fq_column.specs.Refusal.{refusal_of, refuse_if, unless_refused}

-- the fields, with another kind at place i
abbrev pub with_kind : ℕ → Kind → Fields → Fields
with_kind i k [] = []
with_kind zero k (f ∷ fields) = (f.0, k) ∷ fields
with_kind (suc i) k (f ∷ fields) = f ∷ with_kind i k fields

-- a name, and the judgement of its kind
abbrev pub Judged : Type 0
Judged = Name × Result Kind StepFault

-- the refusals of judged names
abbrev pub refusals : List Judged → List (Option StepFault)
refusals ps = map (λ p. refusal_of p.1) ps

-- the fields of judged names, if none is refused
abbrev pub settled : List Judged → Fields
settled ps = map (λ p. (p.0, result_unwrap_or p.1 Whole)) ps

-- the fields, unless two of their names are equal
abbrev pub unless_double : Fields → Result Fields StepFault
unless_double fields = unless_refused (refuse_if (not (is_distinct same_name (names_of fields))) DoubleName ∷ []) fields

-- the places of the columns of names
abbrev pub AreAt : List ℕ → List Name → Fields → Type 0
AreAt places names fields = map Some places ≡ map (λ n. position_of n (names_of fields)) names
