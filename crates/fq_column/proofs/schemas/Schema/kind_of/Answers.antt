use Rattle.std.proofs.Common.{sym}
use Rattle.fq_column.proofs.NameLemmas.{kind_named-at, kind_named-none}
use Rattle.fq_column.proofs.schemas.Schema.kind_of.Goals as goal

pub returns-in-Some : goal.returns-in-Some
returns-in-Some c = sym (kind_named-at c.args.self.now c.args.name.now c.in-Some.i c.kind.result (sym c.in-Some.ensures) c.kind.ensures)

pub returns-in-None : goal.returns-in-None
returns-in-None c = sym (kind_named-none c.args.self.now c.args.name.now (sym c.in-None.ensures))
