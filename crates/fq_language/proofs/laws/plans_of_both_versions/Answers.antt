use Rattle.fq_language.proofs.VersionLemmas.{next-version}
use Rattle.fq_language.proofs.laws.plans_of_both_versions.Goals as goal

pub returns : goal.returns
returns c former latter p next e = next-version former latter p next e
