-- What reading a part of a plan answers, and what a source and a join say of nulls.
use Rattle.std.specs.Prelude.{◌≡◌, ◌⊎◌, ℕ, Bool, false, List, [], codes, if◌then◌else◌, Option, Some, None, Result, Ok, Err, IsErr, MatchResult}
use Rattle.serde_json.specs.Data.{Data}
use Rattle.serde_json.specs.Find.{as_bool}
use Rattle.fq_language.specs.Parts.{only_if, with_length, has_members, member}
use Rattle.fq_language.specs.Spelling.{names}
use Rattle.fq_language.specs.declared.plans.Version.{Version}
use Rattle.fq_language.specs.declared.plans.Version.TheVariants.{One, Two}
use Rattle.fq_language.specs.declared.plans.TheConstants.{MAX_NULL_VALUES}
use Rattle.fq_language.specs.declared.reasons.PartFault.{PartFault}
use Rattle.fq_language.specs.declared.reasons.PartFault.TheVariants.{Memory}

-- the part that is spelled, or that there is none, for whatever reason; a failed allocation says nothing
abbrev pub Answers : {X Y : Type 0} → (X → Y) → Option Y → Result X PartFault → Type 0
Answers part_of spelled result = MatchResult result (λ part. Some (part_of part) ≡ spelled) (λ fault. (None ≡ spelled) ⊎ (fault ≡ Memory))

-- the same answer, but for the reason
abbrev pub IsSameAnswer : {X : Type 0} → Result X PartFault → Result X PartFault → Type 0
IsSameAnswer answer result = MatchResult answer (λ part. result ≡ Ok part) (λ fault. IsErr result × (fault ≡ Memory → result ≡ Err Memory))

-- the texts that are null in a source: none, or in version 2 those that it gives
abbrev pub null_texts : Version → Data → Option (List (List ℕ))
null_texts One d = only_if (has_members 2 d) (Some [])
null_texts Two d =
    if has_members 2 d then Some []
    else only_if (has_members 3 d) (with_length 0 MAX_NULL_VALUES (member (codes "null_values") names d))

-- whether a null matches a null in a join: it does not, or in version 2 as the join says
abbrev pub matches_nulls : Version → Data → Option Bool
matches_nulls One d = only_if (has_members 3 d) (Some false)
matches_nulls Two d = if has_members 3 d then Some false else only_if (has_members 4 d) (member (codes "nulls_equal") as_bool d)
