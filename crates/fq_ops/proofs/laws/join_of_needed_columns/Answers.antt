use Rattle.fq_ops.proofs.NeededLemmas.{join_stream-agree}
use Rattle.fq_ops.proofs.laws.join_of_needed_columns.Goals as goal

pub returns : goal.returns
returns g c how nulls_equal left right on rows room too_many needed u v wide agree = join_stream-agree how nulls_equal left right on rows room too_many needed wide u v agree
