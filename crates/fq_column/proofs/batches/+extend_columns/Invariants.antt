use Rattle.std.proofs.Common.{length}
use Rattle.fq_column.proofs.batches.+extend_columns.Given as goal

abbrev pub decreases-extend_columns : goal.decreases-extend_columns
decreases-extend_columns l = length l.columns.now
