use Rattle.fq_notation.proofs.LawLemmas.{date-back, decimal-back, plain-back}
use Rattle.fq_notation.proofs.laws.notation_laws.Goals as goal

pub returns-clause-digits : goal.returns-clause-digits
returns-clause-digits c = λ z. plain-back z

pub returns-clause-decimals : goal.returns-clause-decimals
returns-clause-decimals c = λ scale z. decimal-back scale z

pub returns-clause-dates : goal.returns-clause-dates
returns-clause-dates c = λ z. date-back z
