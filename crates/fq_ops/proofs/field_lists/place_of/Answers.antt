use Rattle.std.proofs.Common.{true≢false, sym, ◌∙◌}
use Rattle.fq_column.proofs.NameLemmas.{unnamed}
use Rattle.fq_ops.proofs.field_lists.place_of.Goals as goal

pub unreachable-requires : goal.unreachable-requires
unreachable-requires c = true≢false (sym c.requires ∙ unnamed c.args.schema.now c.args.name.now (sym c.in-None.ensures))
