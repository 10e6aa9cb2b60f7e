use Rattle.std.proofs.Common.{sym, ◌∙◌}
use Rattle.std.proofs.lemmas.Bool.{not-false}
use Rattle.fq_column.specs.SchemaLaws.{same_fields_decides}
use Rattle.fq_run.proofs.passed.Passed.from_piece.Goals as goal

pub returns-clause-columns : goal.returns-clause-columns
returns-clause-columns c = sym c.schema.ensures ∙ (same_fields_decides c.schema.result.now c.args.schema.now).0 (not-false _ (sym c.ne.ensures ∙ c.if-ne.false))
