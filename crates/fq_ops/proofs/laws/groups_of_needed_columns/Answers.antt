use Rattle.fq_ops.proofs.NeededLemmas.{group_stream-same}
use Rattle.fq_ops.proofs.laws.groups_of_needed_columns.Goals as goal

pub returns : goal.returns
returns g c fields keys outputs out_of_range u v agree = group_stream-same fields keys outputs out_of_range u v agree
