-- What a check of files answers.
use Rattle.std.specs.Prelude.{◌≡◌, ◌⊎◌, Bool, true, false, Result, MatchResult}
use Rattle.fq_messages.specs.Ending.{IsOutside}
use Rattle.fq_messages.specs.declared.failures.Failure.{Failure}
use Rattle.fq_messages.specs.declared.failures.Failure.TheVariants.{Problems}

-- by whether nothing is wrong in the files: that there is nothing, or that there are problems, unless a device or an allocation failed
abbrev pub IsVerdict : {X : Type 0} → Bool → Result X Failure → Type 0
IsVerdict clean result = MatchResult result (λ _. clean ≡ true) (λ failure. ((failure ≡ Problems) × (clean ≡ false)) ⊎ IsOutside failure)
