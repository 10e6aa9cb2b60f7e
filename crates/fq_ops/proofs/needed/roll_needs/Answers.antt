use Rattle.std.proofs.Common.{true, false, not, refl, rules, sym, ◌∙◌}
use Rattle.fq_column.specs.Frame.{same_name}
use Rattle.fq_ops.proofs.NeedLemmas.{roll-need}
use Rattle.fq_ops.proofs.needed.roll_needs.Goals as goal

pub returns-then-after : goal.returns-then-after
returns-then-after c needed e =
    roll-need c.args.name.now c.args.column.now c.args.output.now needed false true c.ne.result (sym c.if-eq.false ∙ search rules) (e ∙ c.if-after.true) (search rules)

pub returns-else-after : goal.returns-else-after
returns-else-after c needed e =
    c.if-after.false
    ∙ roll-need c.args.name.now c.args.column.now c.args.output.now needed false false (not (same_name c.args.output.now c.args.name.now)) (sym c.if-eq.false ∙ search rules) (e ∙ c.if-after.false) refl
