use Rattle.std.proofs.Common.{◌∙◌, ap, map, string_bytes, String, Global}
use Rattle.std.specs.Prelude.{is_some}
use Rattle.fq_column.specs.declared.cells.Kind.{Kind}
use Rattle.fq_column.specs.Refusal.{first_refusal}
use Rattle.fq_column.specs.Schema.{schema_checks}
use Rattle.fq_language.proofs.RefusalLemmas.{err-if-ok, err-on-ok, fields_of-columns, names_of-columns, told}
use Rattle.fq_language.proofs.refusals.source_schema.Goals as goal

pub returns-in-Ok-clause-schema : goal.returns-in-Ok-clause-schema
returns-in-Ok-clause-schema c =
    c.in-Ok.ensures.ok
    ∙ fields_of-columns c.args.source.now.columns.items _ _
    (c.in_ok-names.ensures.names ∙ ap (map (λ (column : String Global × Kind). string_bytes column.0)) c.as_slice.ensures.value)
    (c.in_ok-names.ensures.kinds ∙ ap (map (λ (column : String Global × Kind). column.1)) c.as_slice.ensures.value)

pub returns-in-Ok-clause-passed : goal.returns-in-Ok-clause-passed
returns-in-Ok-clause-passed c =
    ap (λ names. first_refusal (schema_checks names))
    (names_of-columns c.args.source.now.columns.items _ (c.in_ok-names.ensures.names ∙ ap (map (λ (column : String Global × Kind). string_bytes column.0)) c.as_slice.ensures.value))
    ∙ c.in-Ok.ensures.refused

pub returns-in_ok-names-in-Err : goal.returns-in_ok-names-in-Err
returns-in_ok-names-in-Err c = record {
  schema = err-if-ok _ c.explain_columns.result c.explain_columns.ensures;
  passed = err-on-ok _ c.explain_columns.result c.explain_columns.ensures;
  wrong = told (ap is_some (ap (λ names. first_refusal (schema_checks names))
      (names_of-columns c.args.source.now.columns.items _ (c.in_ok-names.ensures.names ∙ ap (map (λ (column : String Global × Kind). string_bytes column.0)) c.as_slice.ensures.value))
      ∙ c.in-Err.ensures.refused)) c.explain_columns.result;
}
