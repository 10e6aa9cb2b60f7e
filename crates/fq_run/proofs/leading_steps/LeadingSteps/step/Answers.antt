use Rattle.std.proofs.Common.{sym, ◌∙◌}
use Rattle.std.proofs.lemmas.Bool.{not-false}
use Rattle.fq_column.specs.SchemaLaws.{same_fields_decides}
use Rattle.fq_run.proofs.leading_steps.LeadingSteps.step.Goals as goal

pub apply-requires : goal.apply-requires
apply-requires c = sym c.schema.ensures ∙ (same_fields_decides c.schema.result.now c.schema-else-file-self.result.now).0 (not-false _ (sym c.ne.ensures ∙ c.if-ne.false)) ∙ c.schema-else-file-self.ensures
