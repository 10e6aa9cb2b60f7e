-- Two JSON values that differ in the version of the plan alone, and the steps that both versions have.
use Rattle.std.specs.Prelude.{◌≡◌, ◌⊎◌, ℕ, false, codes, Some}
use Rattle.serde_json.specs.Data.{Data}
use Rattle.serde_json.specs.Find.{get}
use Rattle.fq_ops.specs.declared.joins.How.TheVariants.{Inner, Left}
use Rattle.fq_language.specs.Parts.{has_members, member}
use Rattle.fq_language.specs.Plan.{PlanStep, row_wise, join, group_by, rolling_sum}
use Rattle.fq_language.specs.Spelling.{version_of}
use Rattle.fq_language.specs.declared.plans.Version.TheVariants.{One, Two}

-- a step that the first version has: a join is an inner or a left one, and no null matches in it
abbrev pub IsOldStep : PlanStep → Type 0
IsOldStep (row_wise s) = Unit {0}
IsOldStep (join source on how nulls_equal) = ((how ≡ Inner) ⊎ (how ≡ Left)) × (nulls_equal ≡ false)
IsOldStep (group_by keys aggs) = Unit {0}
IsOldStep (rolling_sum column window min_samples name) = Unit {0}

-- which is 1 in the former and 2 in the latter
pub record IsNextVersion (former latter : Data) : Type 0 where
  pub one : member (codes "version") version_of former ≡ Some One
  pub two : member (codes "version") version_of latter ≡ Some Two
  pub members : (n : ℕ) → has_members n latter ≡ has_members n former
  pub sources : get (codes "sources") latter ≡ get (codes "sources") former
  pub steps : get (codes "steps") latter ≡ get (codes "steps") former
