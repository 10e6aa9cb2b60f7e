use Rattle.std.proofs.Common.{sym, ◌∙◌}
use Rattle.fq_run.proofs.RightLemmas.{rights-apart}
use Rattle.fq_run.proofs.pipeline.take_right.Goals as goal

pub returns-clause-left : goal.returns-clause-left
returns-clause-left c = rights-apart c.args.sides.now.items c.in-Join.join.source c.replace.new.dest c.args.later.now (sym c.is_joined.ensures ∙ c.if-is_joined.false)
