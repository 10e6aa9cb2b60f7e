use Rattle.fq_expr.proofs.FollowedLemmas.{is-read}
use Rattle.fq_expr.proofs.HomogeneityLemmas.{value-keeps}
use Rattle.fq_expr.proofs.laws.value_keeps_scale.Goals as goal

pub returns-clause-read : goal.returns-clause-read
returns-clause-read c = λ fields named e scales homogeneous stands. is-read fields named e scales homogeneous stands

pub returns-clause-multiplied : goal.returns-clause-multiplied
returns-clause-multiplied c = λ r fields named e f row cell above homogeneous stands value. value-keeps r above fields named row e f cell homogeneous stands value
