use Rattle.std.proofs.Common.{refl}
use Rattle.fq_csv.proofs.OnLiterals.{files_on_literals}
use Rattle.fq_places.specs.Marks.{marks_from}
use Rattle.fq_examples.proofs.places.worked_ends.Goals as goal

pub returns-clause-begun : goal.returns-clause-begun
unfolding files_on_literals marks_from
returns-clause-begun c = refl

pub returns-clause-closed : goal.returns-clause-closed
unfolding files_on_literals marks_from
returns-clause-closed c = refl

pub returns-clause-doubled : goal.returns-clause-doubled
unfolding files_on_literals marks_from
returns-clause-doubled c = refl

pub returns-clause-within : goal.returns-clause-within
unfolding files_on_literals marks_from
returns-clause-within c = refl
