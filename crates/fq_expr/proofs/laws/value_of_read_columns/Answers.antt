use Rattle.fq_expr.specs.Needed.{names_read}
use Rattle.fq_expr.proofs.NeededLemmas.{value_of-agree}
use Rattle.fq_expr.proofs.laws.value_of_read_columns.Goals as goal

pub returns : goal.returns
returns c fields e row other agree = value_of-agree (names_read e) fields e (λ n h. h) row other agree
