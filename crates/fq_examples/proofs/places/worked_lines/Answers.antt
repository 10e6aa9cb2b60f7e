use Rattle.std.proofs.Common.{refl}
use Rattle.fq_csv.proofs.OnLiterals.{files_on_literals}
use Rattle.fq_places.specs.Marks.{marks_from}
use Rattle.fq_examples.proofs.places.worked_lines.Goals as goal

pub returns-clause-breaks : goal.returns-clause-breaks
unfolding files_on_literals marks_from
returns-clause-breaks c = refl

pub returns-clause-returns : goal.returns-clause-returns
unfolding files_on_literals marks_from
returns-clause-returns c = refl

pub returns-clause-mark : goal.returns-clause-mark
unfolding files_on_literals marks_from
returns-clause-mark c = refl

pub returns-clause-none : goal.returns-clause-none
unfolding files_on_literals marks_from
returns-clause-none c = refl
