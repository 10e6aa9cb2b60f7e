use Rattle.fq_notation.proofs.ScaleLemmas.{other-only, possible-only}
use Rattle.fq_expr.proofs.FollowedLemmas.{read-alone}
use Rattle.fq_expr.proofs.laws.scale_that_is_read.Goals as goal

pub returns-clause-possible : goal.returns-clause-possible
returns-clause-possible c = λ fields named e scales n h read. possible-only scales n (read-alone fields named e scales n h read)

pub returns-clause-alone : goal.returns-clause-alone
returns-clause-alone c = λ fields named e scales n m h read possible. other-only scales n m (read-alone fields named e scales n h read) possible
