use Rattle.fq_expr.proofs.followed.+zeros_within.Given as goal

abbrev pub decreases-zeros_within : goal.decreases-zeros_within
decreases-zeros_within l = l.most
