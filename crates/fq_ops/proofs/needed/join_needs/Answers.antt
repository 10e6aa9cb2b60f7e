use Rattle.std.proofs.Common.{true, false, map, string_bytes, sym, ◌∙◌}
use Rattle.fq_ops.proofs.NeedLemmas.{in-either}
use Rattle.fq_ops.proofs.needed.join_needs.Goals as goal

pub returns-then-contains : goal.returns-then-contains
returns-then-contains c needed e =
    c.if-contains.true ∙ in-either c.args.name.now (map string_bytes c.args.on.now) needed true c.args.after (sym c.if-contains.true ∙ c.contains.ensures) e

pub returns-else-contains : goal.returns-else-contains
returns-else-contains c needed e = in-either c.args.name.now (map string_bytes c.args.on.now) needed false c.args.after (sym c.if-contains.false ∙ c.contains.ensures) e
