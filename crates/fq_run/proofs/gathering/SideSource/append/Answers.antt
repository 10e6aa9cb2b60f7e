use Rattle.std.proofs.Common.{sym, ◌∙◌}
use Rattle.fq_column.specs.SchemaLaws.{same_fields_decides}
use Rattle.fq_run.proofs.gathering.SideSource.append.Goals as goal

pub extend-requires : goal.extend-requires
extend-requires c = sym c.schema-2.ensures ∙ sym ((same_fields_decides c.schema.result.now c.schema-2.result.now).0 (sym c.eq.ensures ∙ c.if-eq.true)) ∙ c.schema.ensures
