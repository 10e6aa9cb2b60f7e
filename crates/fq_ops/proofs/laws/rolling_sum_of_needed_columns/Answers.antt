use Rattle.fq_ops.proofs.NeededLemmas.{roll_stream-agree}
use Rattle.fq_ops.proofs.laws.rolling_sum_of_needed_columns.Goals as goal

pub returns : goal.returns
returns g c fields column window min_samples name out_of_range needed u v distinct agree = roll_stream-agree fields column window min_samples name needed out_of_range distinct u v agree
