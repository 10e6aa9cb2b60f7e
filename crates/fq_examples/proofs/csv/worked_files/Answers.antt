use Rattle.std.proofs.Common.{refl}
use lib.Utf8.{encode}
use Rattle.fq_csv.proofs.OnLiterals.{files_on_literals}
use Rattle.fq_examples.proofs.csv.worked_files.Goals as goal

pub returns-clause-numbers : goal.returns-clause-numbers
unfolding files_on_literals
returns-clause-numbers c = refl

pub returns-clause-past_64_bits : goal.returns-clause-past_64_bits
unfolding files_on_literals
returns-clause-past_64_bits c = refl

pub returns-clause-texts : goal.returns-clause-texts
unfolding files_on_literals encode
returns-clause-texts c = refl

pub returns-clause-truth_values : goal.returns-clause-truth_values
unfolding files_on_literals
returns-clause-truth_values c = refl

pub returns-clause-no_utf8 : goal.returns-clause-no_utf8
unfolding files_on_literals encode
returns-clause-no_utf8 c = refl

pub returns-clause-no_record : goal.returns-clause-no_record
unfolding files_on_literals
returns-clause-no_record c = refl

pub returns-clause-ragged : goal.returns-clause-ragged
unfolding files_on_literals
returns-clause-ragged c = refl

pub returns-clause-too_long : goal.returns-clause-too_long
unfolding files_on_literals
returns-clause-too_long c = refl

pub returns-clause-decimals_and_dates : goal.returns-clause-decimals_and_dates
unfolding files_on_literals
returns-clause-decimals_and_dates c = refl
