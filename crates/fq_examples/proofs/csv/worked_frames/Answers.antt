use Rattle.std.proofs.Common.{refl}
use Rattle.fq_csv.proofs.OnLiterals.{files_on_literals}
use Rattle.fq_examples.proofs.csv.worked_frames.Goals as goal

pub returns-clause-null_alone : goal.returns-clause-null_alone
unfolding files_on_literals
returns-clause-null_alone c = refl

pub returns-clause-quoted : goal.returns-clause-quoted
unfolding files_on_literals
returns-clause-quoted c = refl

pub returns-clause-decimals_and_dates : goal.returns-clause-decimals_and_dates
unfolding files_on_literals
returns-clause-decimals_and_dates c = refl
