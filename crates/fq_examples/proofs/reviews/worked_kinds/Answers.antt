use Rattle.std.proofs.Common.{refl}
use Rattle.fq_csv.proofs.OnLiterals.{files_on_literals}
use Rattle.fq_examples.proofs.reviews.worked_kinds.Goals as goal

pub returns-clause-ints : goal.returns-clause-ints
unfolding files_on_literals
returns-clause-ints c = refl

pub returns-clause-zeros : goal.returns-clause-zeros
unfolding files_on_literals
returns-clause-zeros c = refl

pub returns-clause-pluses : goal.returns-clause-pluses
unfolding files_on_literals
returns-clause-pluses c = refl

pub returns-clause-nulls : goal.returns-clause-nulls
unfolding files_on_literals
returns-clause-nulls c = refl
