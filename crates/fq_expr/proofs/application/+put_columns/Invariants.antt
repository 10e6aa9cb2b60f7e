use Rattle.std.proofs.Common.{length}
use Rattle.fq_expr.proofs.application.+put_columns.Given as goal

abbrev pub decreases-put_columns : goal.decreases-put_columns
decreases-put_columns l = length l.items.now
