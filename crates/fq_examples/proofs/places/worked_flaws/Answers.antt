use Rattle.std.proofs.Common.{refl}
use Rattle.fq_csv.proofs.OnLiterals.{files_on_literals}
use Rattle.fq_places.specs.Marks.{marks_from}
use Rattle.fq_examples.proofs.places.worked_flaws.Goals as goal

pub returns-clause-returns : goal.returns-clause-returns
unfolding files_on_literals marks_from
returns-clause-returns c = refl

pub returns-clause-quotes : goal.returns-clause-quotes
unfolding files_on_literals marks_from
returns-clause-quotes c = refl

pub returns-clause-opened : goal.returns-clause-opened
unfolding files_on_literals marks_from
returns-clause-opened c = refl

pub returns-clause-none : goal.returns-clause-none
unfolding files_on_literals marks_from
returns-clause-none c = refl
