use Rattle.std.proofs.Common.{length}
use Rattle.fq_column.proofs.batches.+append_columns.Given as goal

abbrev pub decreases-append_columns : goal.decreases-append_columns
decreases-append_columns l = length l.columns.now
