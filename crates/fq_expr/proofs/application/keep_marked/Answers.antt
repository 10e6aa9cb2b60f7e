use Rattle.std.proofs.Common.{◌∙◌, sym}
use Rattle.fq_expr.proofs.FilterLemmas.{keep-all}
use Rattle.fq_expr.proofs.application.keep_marked.Goals as goal

pub returns-else-contains : goal.returns-else-contains
returns-else-contains c = λ i. record { fields = c.args.batch.now.fields; rows = keep-all c.args.mask.now c.args.batch.now.rows (sym c.contains.ensures.value ∙ c.if-contains.false) c.requires i }
